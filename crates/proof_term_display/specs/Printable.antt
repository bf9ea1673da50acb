-- What it takes to print the term of a record or a label, and its text.
use Rattle.std.specs.Prelude.{ℕ, ◌+◌, ◌*◌, ◌≤◌, ◌<◌, ◌≡◌, List, length, Option}
use Rattle.definitions.specs.declared.Style.{Style}
use Rattle.definitions.specs.Term.{rename_label, rename_parameter_label, rename_term}
use Rattle.definitions.specs.Display.{display_label, display_parameter_label, display_term}
use Rattle.proof_term.specs.Records.{record_size, term_at}
use Rattle.proof_term.specs.Labels.{LabelsFit}
use Rattle.proof_term.specs.Readable.{NamesBelow}
use Rattle.proof_term.specs.Views.{label_meant, parameter_meant}
use Rattle.proof_term.specs.declared.nodes.Label.{Label}
use Rattle.proof_term.specs.declared.nodes.Label.TheVariants.{Proposition, Datatype}
use Rattle.vocabulary.specs.declared.Vocabulary.{Vocabulary}
use Rattle.vocabulary.specs.Vocabulary.{name_in, prop_in, Within, Names}
use Rattle.prop.specs.Printing.{KnownIn}

-- the memory holds record n, its term's names are names of the vocabulary, and the labels of the records up to n fit: a proposition
-- stands at its number, with its ends in the table
pub record PrintableTerm (records : List ℕ) (n : ℕ) (bytes : List ℕ) (v : Vocabulary) (ends : List ℕ) : Type 0 where
  pub held : record_size * (n + 1) ≤ length records
  pub below : NamesBelow v.name_count (term_at (prop_in bytes v) records n)
  pub labels : LabelsFit v.name_count (KnownIn bytes v ends) records n
  pub within : Within bytes v
  pub named : (i : ℕ) → i < v.name_count → Names bytes v i

-- the text of record n's term
abbrev pub term_text : Style → List ℕ → Vocabulary → List ℕ → ℕ → List ℕ
term_text s bytes v records n = display_term s (rename_term (name_in bytes v) (term_at (prop_in bytes v) records n))

-- the memory has what a label stands for: the name of a datatype, or a proposition with its ends in the table
pub record PrintableLabel (bytes : List ℕ) (v : Vocabulary) (ends : List ℕ) (l : Label) : Type 0 where
  pub datatype : (t : ℕ) → l ≡ Datatype t → t < v.name_count
  pub proposition : (at : ℕ) → l ≡ Proposition at → KnownIn bytes v ends at
  pub within : Within bytes v
  pub named : (i : ℕ) → i < v.name_count → Names bytes v i

-- the text of a label, and that of the label of a parameter, if it has one
abbrev pub shown_label : List ℕ → Vocabulary → Label → List ℕ
shown_label bytes v l = display_label (rename_label (name_in bytes v) (label_meant (prop_in bytes v) l))

abbrev pub shown_parameter_label : List ℕ → Vocabulary → Option Label → List ℕ
shown_parameter_label bytes v l = display_parameter_label (rename_parameter_label (name_in bytes v) (parameter_meant (prop_in bytes v) l))
