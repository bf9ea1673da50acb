-- The labels of a term in records: which records have one, in which order they stand, and what its readers ask of them.
use Rattle.std.specs.Prelude.{ℕ, zero, suc, ◌+◌, ◌≤◌, ◌<◌, ◌≡◌, Bool, true, false, not, cond, List, [], ◌∷◌, ◌++◌, eqb}
use Rattle.definitions.specs.Prop.{Prop}
use Rattle.definitions.specs.Term.{Label, ProofTerm, of_labels}
use Rattle.proof_term.specs.Records.{field_at, label_of, term_at}

-- whether a record has a label, by its kind and the kind of its label: an ascription, or a function whose parameter has one
unfoldable pub has_label : ℕ → ℕ → Bool
has_label kind label = cond (eqb kind 11) true (cond (eqb kind 4) (not (eqb label 0)) false)

-- record m has a label
abbrev pub Labelled : List ℕ → ℕ → Type 0
Labelled records m = has_label (field_at records m 0) (field_at records m 3) ≡ true

-- what `add` gives for labels
module _ {A : Type 0} (add : Label ℕ → List A) (props : ℕ → Prop ℕ) where
  -- for a record's own, if it has one, by the kind of the record, the kind of the label and its number
  unfoldable pub of_own_label : ℕ → ℕ → ℕ → List A
  of_own_label kind label number = cond (has_label kind label) (add (label_of props label number)) []

  abbrev pub of_record : List ℕ → ℕ → List A
  of_record records m = of_own_label (field_at records m 0) (field_at records m 3) (field_at records m 4)

  -- for those of the records below n, in the records' order
  unfoldable pub of_records : List ℕ → ℕ → List A
  of_records records zero = []
  of_records records (suc n) = of_records records n ++ of_record records n

-- a label alone
abbrev pub single : {N : Type 0} → Label N → List (Label N)
single l = l ∷ []

-- the labels of a term, its parts' before its own
abbrev pub term_labels : {N : Type 0} → ProofTerm N → List (Label N)
term_labels t = of_labels single t

-- the label of record m, if it has one
abbrev pub record_label : (ℕ → Prop ℕ) → List ℕ → ℕ → List (Label ℕ)
record_label props records m = of_record single props records m

-- the labels of the records below n, in their order
abbrev pub record_labels : (ℕ → Prop ℕ) → List ℕ → ℕ → List (Label ℕ)
record_labels props records n = of_records single props records n

-- the records up to n stand in the order of the term that record n holds: their labels are the term's, one after the other
pub record InOrder (records : List ℕ) (n : ℕ) : Type 0 where
  pub labels : (props : ℕ → Prop ℕ) → record_labels props records (n + 1) ≡ term_labels (term_at props records n)

-- what a label's number is: the number of a datatype's name, or one at which a proposition stands
pub record LabelFits (names : ℕ) (Stands : ℕ → Type 0) (label number : ℕ) : Type 0 where
  pub datatype : label ≡ 2 → number < names
  pub proposition : (label ≡ 2 → ⊥) → Stands number

-- the label of each record up to n that has one fits
abbrev pub LabelsFit : ℕ → (ℕ → Type 0) → List ℕ → ℕ → Type 0
LabelsFit names Stands records n =
    (m : ℕ) → m ≤ n → Labelled records m → LabelFits names Stands (field_at records m 3) (field_at records m 4)
