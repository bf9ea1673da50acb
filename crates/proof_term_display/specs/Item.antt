-- The items of a record's format: what it takes to print one, and its text.
use Rattle.std.specs.Prelude.{ℕ, ◌<◌, ◌≡◌, List}
use Rattle.definitions.specs.declared.Style.{Style}
use Rattle.definitions.specs.Term.{rename_label, rename_parameter_label}
use Rattle.definitions.specs.Prop.{Prop}
use Rattle.definitions.specs.Display.{display_label, display_parameter_label}
use Rattle.proof_term.specs.Records.{field_at, label_of, parameter_label, record_term, term_at, part_at}
use Rattle.proof_term.specs.Labels.{has_label, LabelFits}
use Rattle.proof_term.specs.Readable.{NamesBelow}
use Rattle.vocabulary.specs.declared.Vocabulary.{Vocabulary}
use Rattle.vocabulary.specs.Vocabulary.{name_in, prop_in}
use Rattle.prop.specs.Printing.{KnownIn}
use Rattle.proof_term_display.specs.Format.{Item, fixed, name, part, of_parameter, of_ascription, part_field, item_text}

-- the kind of record n, among those that are known: an unknown one counts as Unit
pub record KindAt (records : List ℕ) (n kind : ℕ) : Type 0 where
  pub known : kind < 14
  pub holds : (props : ℕ → Prop ℕ) → term_at props records n
      ≡ record_term props (part_at props records n) kind (field_at records n 1) (field_at records n 2) (field_at records n 3) (field_at records n 4) (field_at records n 5)
  pub labels : (label : ℕ) → has_label (field_at records n 0) label ≡ has_label kind label

-- the label of record n can be printed
abbrev pub LabelReady : List ℕ → Vocabulary → List ℕ → List ℕ → ℕ → Type 0
LabelReady bytes v ends records n = LabelFits v.name_count (KnownIn bytes v ends) (field_at records n 3) (field_at records n 4)

module _ (bytes : List ℕ) (v : Vocabulary) (ends records : List ℕ) (n : ℕ) where
  -- an item of record n can be printed
  unfoldable pub ItemReady : Item → Type 0
  ItemReady (fixed b) = Prim.Unit {0}
  ItemReady (name i) = field_at records n i < v.name_count
  ItemReady (part k) = NamesBelow v.name_count (part_at (prop_in bytes v) records n (field_at records n (part_field k)))
  ItemReady of_parameter = (field_at records n 3 ≡ 0 → ⊥) → LabelReady bytes v ends records n
  ItemReady of_ascription = LabelReady bytes v ends records n

module _ (bytes : List ℕ) (v : Vocabulary) (records : List ℕ) (n : ℕ) where
  -- the text of an item of record n
  abbrev pub record_item : Style → Item → List ℕ
  record_item s = item_text s (name_in bytes v) (prop_in bytes v) (part_at (prop_in bytes v) records n) (field_at records n)

  -- the text of its label: that of an ascription, and that of a parameter, if it has one
  abbrev pub label_text : List ℕ
  label_text = display_label (rename_label (name_in bytes v) (label_of (prop_in bytes v) (field_at records n 3) (field_at records n 4)))

  abbrev pub parameter_label_text : List ℕ
  parameter_label_text =
      display_parameter_label (rename_parameter_label (name_in bytes v) (parameter_label (prop_in bytes v) (field_at records n 3) (field_at records n 4)))
