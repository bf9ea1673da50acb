-- The length of a term's text by the records, what it takes to count it, and what is known on the way.
use Rattle.std.specs.Prelude.{ℕ, ◌+◌, ◌*◌, ◌≤◌, ◌<◌, min, ◌≡◌, List, length, get_or, Option, None, Some}
use Rattle.definitions.specs.declared.Style.{Style}
use Rattle.proof_term.specs.Records.{record_size, field_at}
use Rattle.proof_term.specs.Labels.{LabelsFit}
use Rattle.vocabulary.specs.declared.Vocabulary.{Vocabulary}
use Rattle.vocabulary.specs.Vocabulary.{code_in, name_in, Within, Names}
use Rattle.prop.specs.Printing.{prop_text, KnownIn}
use Rattle.proof_term_display.specs.Format.{Item, fixed, name, part, of_parameter, of_ascription}
use Rattle.proof_term_display.specs.Item.{LabelReady, record_item}
use Rattle.proof_term_display.specs.Printable.{term_text}

-- two counts are the same as far as the cap
pub record Agrees (cap a b : ℕ) : Type 0 where
  pub same : min a cap ≡ min b cap

module _ (bytes : List ℕ) (v : Vocabulary) (records : List ℕ) where
  abbrev pub term_length : Style → ℕ → ℕ
  term_length s n = length (term_text s bytes v records n)

  -- the length of the name in a number of record n, and of an item of its format
  abbrev pub name_size : ℕ → ℕ → ℕ
  name_size n i = length (name_in bytes v (field_at records n i))

  abbrev pub item_size : ℕ → Style → Item → ℕ
  item_size n s i = length (record_item bytes v records n s i)

  -- the table has the lengths of the records below n, as far as the cap
  abbrev pub MeasuredBelow : Style → ℕ → List ℕ → ℕ → Type 0
  MeasuredBelow s cap lengths n = (m : ℕ) → m < n → get_or lengths m 0 ≡ min (term_length s m) cap

module _ (bytes : List ℕ) (v : Vocabulary) where
  -- each name is there
  pub record AllNamed : Type 0 where
    pub within : Within bytes v
    pub named : (n : ℕ) → n < v.name_count → Names bytes v n

  -- a length in the table is that of the text of the proposition at its place
  abbrev pub Known : List (Option ℕ) → Type 0
  Known known = (i k : ℕ) → get_or known i None ≡ Some k → k ≡ length (prop_text bytes v i)

-- where an item stands for a label, record n has one, and that fits
module _ (bytes : List ℕ) (v : Vocabulary) (ends records : List ℕ) (n : ℕ) where
  unfoldable pub ItemFits : Item → Type 0
  ItemFits (fixed b) = Prim.Unit {0}
  ItemFits (name i) = Prim.Unit {0}
  ItemFits (part k) = Prim.Unit {0}
  ItemFits of_parameter = (field_at records n 3 ≡ 0 → ⊥) → LabelReady bytes v ends records n
  ItemFits of_ascription = LabelReady bytes v ends records n

-- the memory holds record n, the tables have room, and the labels of the records up to n fit: a proposition stands at its number
pub record Measurable (records : List ℕ) (n : ℕ) (bytes : List ℕ) (v : Vocabulary) (ends : List ℕ) : Type 0 where
  pub held : record_size * (n + 1) ≤ length records
  pub few : n < 2048
  pub short : length (code_in bytes v) ≤ 8192
  pub labels : LabelsFit v.name_count (KnownIn bytes v ends) records n
  pub names : AllNamed bytes v
