-- A record's label is printable where the record's is ready, and its text is the record's.
use Prim.Native.Nat.{ℕ, ◌<◌}
use mathlib.Core.Path.{◌≡◌, sym, ap, ◌∙◌}
use Rattle.std.specs.Prelude.{Option, None, Some, IfSome}
use mathlib.Core.List.{List}
use Rattle.std.proofs.lemmas.Bool.{eqb-false}
use Rattle.definitions.specs.Name.{Name}
use Rattle.definitions.specs.Prop.{Prop, rename_prop}
use Rattle.definitions.specs.Term.{rename_label}
use Rattle.definitions.specs.Display.{display_prop, display_label}
use Rattle.proof_term.specs.Records.{field_at, label_of}
use Rattle.proof_term.specs.Views.{label_of_numbers, parameter_of_numbers, label_meant}
use Rattle.proof_term.specs.declared.nodes.Label.{Label}
use Rattle.proof_term.specs.declared.nodes.Label.TheVariants.{Proposition, Datatype}
use Rattle.proof_term.proofs.Views.{label_same, parameter_same, parameter_read, datatype_read, proposition_read}
use Rattle.vocabulary.specs.declared.Vocabulary.{Vocabulary}
use Rattle.vocabulary.specs.Vocabulary.{prop_in, Within, Names}
use Rattle.prop.proofs.Shown.{below_as}
use Rattle.proof_term_display.specs.Printable.{PrintableLabel, shown_label, shown_parameter_label}
use Rattle.proof_term_display.specs.Item.{LabelReady, label_text, parameter_label_text}

module _ {bytes : List ℕ} {v : Vocabulary} {ends : List ℕ} (records : List ℕ) (n : ℕ) (within : Within bytes v) (named : (i : ℕ) → i < v.name_count → Names bytes v i) where
  pub printable_label : LabelReady bytes v ends records n → {l : Label} → label_of_numbers (field_at records n 3) (field_at records n 4) ≡ l → PrintableLabel bytes v ends l
  printable_label ready {l} is =
      record {
        datatype = λ t e. let read = datatype_read (field_at records n 3) (field_at records n 4) (is ∙ e) in below_as read.1 (ready.datatype read.0);
        proposition = λ at e. let read = proposition_read (field_at records n 3) (field_at records n 4) (is ∙ e) in rw read.1 (ready.proposition read.0);
        within = within;
        named = named;
      }

  pub printable_parameter : ((field_at records n 3 ≡ 0 → ⊥) → LabelReady bytes v ends records n) → (l : Option Label)
      → l ≡ parameter_of_numbers (field_at records n 3) (field_at records n 4) → IfSome l (PrintableLabel bytes v ends)
  printable_parameter ready None is = tt
  printable_parameter ready (Some l) is =
      let read = parameter_read (field_at records n 3) (field_at records n 4) (sym is) in printable_label (ready (eqb-false _ _ read.0)) read.1

module _ (bytes : List ℕ) (v : Vocabulary) (records : List ℕ) (n : ℕ) where
  pub label_shown : {l : Label} → l ≡ label_of_numbers (field_at records n 3) (field_at records n 4) → shown_label bytes v l ≡ label_text bytes v records n
  label_shown is = rw (is, label_same (prop_in bytes v) (field_at records n 3) (field_at records n 4))

  pub parameter_label_shown : {l : Option Label} → l ≡ parameter_of_numbers (field_at records n 3) (field_at records n 4)
      → shown_parameter_label bytes v l ≡ parameter_label_text bytes v records n
  parameter_label_shown is = rw (is, parameter_same (prop_in bytes v) (field_at records n 3) (field_at records n 4))

-- The text of a label by its kind, over any names and propositions:
module _ (f : ℕ → Name) (props : ℕ → Prop ℕ) (kind number : ℕ) where
  read_text : {l : Label} → label_of_numbers kind number ≡ l
      → display_label (rename_label f (label_meant props l)) ≡ display_label (rename_label f (label_of props kind number))
  read_text is = ap (λ l. display_label (rename_label f (label_meant props l))) (sym is) ∙ ap (λ l. display_label (rename_label f l)) (label_same props kind number)

  pub datatype_text : {name : ℕ} → label_of_numbers kind number ≡ Datatype name → f name ≡ display_label (rename_label f (label_of props kind number))
  unfolding rename_label display_label
  datatype_text is = read_text is

  pub proposition_text : {at : ℕ} → label_of_numbers kind number ≡ Proposition at
      → display_prop (rename_prop f (props at)) ≡ display_label (rename_label f (label_of props kind number))
  unfolding rename_label display_label
  proposition_text is = read_text is
