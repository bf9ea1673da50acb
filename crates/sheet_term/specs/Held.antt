-- What the readers of a sheet's term in records may know of it.
use Rattle.std.specs.Prelude.{ℕ, ◌+◌, ◌*◌, ◌≤◌, ◌<◌, ◌≡◌, ◌⊎◌, List, length, Result, Ok, Err}
use Rattle.definitions.specs.declared.Refusal.{Refusal}
use Rattle.definitions.specs.Outcome.{accepted, refused}
use Rattle.definitions.specs.Sheet.{names, propositions, proposition_pairs, code_bytes, pair_offset, step_limit}
use Rattle.definitions.specs.Answers.{sheet_term}
use Rattle.prefix_code.specs.PropAt.{prop_at}
use Rattle.prefix_code.specs.Shape.{ImplicationAt}
use Rattle.proof_term.specs.Records.{record_size, term_at}
use Rattle.proof_term.specs.Labels.{InOrder, LabelsFit}
use Rattle.proof_term.specs.Tally.{PartsEarlier, NodesTallied}
use Rattle.proof_term.specs.Readable.{NamesBelow}
use Rattle.sheet.specs.Admitted.{Accepted}

-- the offset of a proposition of the sheet, or of the left side of an implication
pub record LabelStands (s : List ℕ) (offset : ℕ) : Type 0 where
  pub number : ℕ
  pub below : number < propositions s
  pub stands :
      let whole = pair_offset (proposition_pairs s) number in
      (offset ≡ whole) ⊎ ImplicationAt (code_bytes s) whole offset

-- record n of the whole memory holds the sheet's term: its names are the sheet's, its records stand in its order over earlier parts,
-- each node keeps its label count, and the labels fit: a datatype is a name of the sheet, and a proposition stands in the code
pub record HeldTerm (s terms : List ℕ) (n : ℕ) : Type 0 where
  pub is_term : sheet_term s ≡ accepted (term_at (prop_at (names s) (code_bytes s)) terms n)
  pub room : length terms ≡ 2 * record_size * step_limit
  pub held : record_size * (n + 1) ≤ length terms
  pub below : NamesBelow (names s) (term_at (prop_at (names s) (code_bytes s)) terms n)
  pub in_order : InOrder terms n
  pub parts : (m : ℕ) → m ≤ n → PartsEarlier terms m
  pub tallied : NodesTallied terms n
  pub labels : LabelsFit (names s) (LabelStands s) terms n

-- a sheet and record n, where the sheet is these bytes and the record holds its term
pub record SheetWithTerm (s terms : List ℕ) (x : List ℕ × ℕ) : Type 0 where
  pub same : x.0 ≡ s
  pub sheet : Accepted s
  pub term : HeldTerm s terms x.1

-- the same of a sheet with records and a record of them
pub record Holding (s : List ℕ) (x : List ℕ × List ℕ × ℕ) : Type 0 where
  pub same : x.0 ≡ s
  pub sheet : Accepted s
  pub term : HeldTerm s x.1 x.2

-- what is answered of an admitted sheet: the record that holds its term, or the term's refusal
abbrev pub Exports : List ℕ → List ℕ → Result ℕ Refusal → Type 0
Exports s terms (Ok n) = HeldTerm s terms n
Exports s terms (Err r) = sheet_term s ≡ refused r

-- what is answered of any bytes
abbrev pub Gives : List ℕ → List ℕ → Result (List ℕ × ℕ) Refusal → Type 0
Gives s terms (Ok x) = SheetWithTerm s terms x
Gives s terms (Err r) = sheet_term s ≡ refused r

abbrev pub Holds : List ℕ → Result (List ℕ × List ℕ × ℕ) Refusal → Type 0
Holds s (Ok x) = Holding s x
Holds s (Err r) = sheet_term s ≡ refused r
