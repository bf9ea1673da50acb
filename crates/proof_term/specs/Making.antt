-- What it is to make a record in lent memory: what becomes of every number, and the term that the record holds.
use Rattle.std.specs.Prelude.{ℕ, ◌+◌, ◌*◌, ◌≤◌, ◌<◌, ◌≡◌, List, [], ◌∷◌, length, get_or, take, drop}
use Rattle.std.proofs.lemmas.List.Edits.{sets}
use Rattle.definitions.specs.Prop.{Prop}
use Rattle.definitions.specs.Term.{ProofTerm, Unit}
use Rattle.proof_term.specs.Records.{record_size, term_at}
use Rattle.proof_term.specs.Labels.{term_labels, record_label}
use Rattle.proof_term.specs.Tally.{Tallied}

-- there is room for record `used`, and the numbers of its parts fit a u16
pub record Room (records : List ℕ) (used : ℕ) : Type 0 where
  pub room : record_size * (used + 1) ≤ length records
  pub few : used ≤ 65536

-- the seven numbers of a record: its kind, five more, and its tally
abbrev pub row : ℕ → List ℕ → ℕ → List ℕ
row kind numbers tally =
    kind ∷ get_or numbers 0 0 ∷ get_or numbers 1 0 ∷ get_or numbers 2 0 ∷ get_or numbers 3 0 ∷ get_or numbers 4 0 ∷ tally ∷ []

-- `after` is the memory `before` with the seven numbers stored as record `used`, and `next` the number of the record that comes next
pub record Pushed (kind : ℕ) (numbers : List ℕ) (tally : ℕ) (before : List ℕ) (used : ℕ) (after : List ℕ) (next : ℕ) : Type 0 where
  pub stored : after ≡ sets before (record_size * used) (row kind numbers tally)
  pub counted : next ≡ used + 1

-- the records below `used` keep their numbers and so their terms
pub record Kept (used : ℕ) (before after : List ℕ) : Type 0 where
  pub numbers : take (record_size * used) after ≡ take (record_size * used) before
  pub terms : (props : ℕ → Prop ℕ) (n : ℕ) → n < used → term_at props after n ≡ term_at props before n

-- `after` is the memory `before` with record `used` made, which holds the term, over the terms that its parts had, the label that the
-- term has over parts without labels, and its tally, where the records before it keep theirs; all other records are as they were
pub record Made (term : (ℕ → Prop ℕ) → (ℕ → ProofTerm ℕ) → ProofTerm ℕ) (before : List ℕ) (used : ℕ) (after : List ℕ) (next : ℕ) : Type 0 where
  pub holds : (props : ℕ → Prop ℕ) → term_at props after used ≡ term props (term_at props before)
  pub label : (props : ℕ → Prop ℕ) → record_label props after used ≡ term_labels (term props (λ part. Unit))
  pub kept : Kept used before after
  pub tallied : Tallied before used → Tallied after next
  pub beyond : drop (record_size * (used + 1)) after ≡ drop (record_size * (used + 1)) before
  pub counted : next ≡ used + 1
