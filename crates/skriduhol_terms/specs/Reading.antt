-- A term that was read as it is handed back, and what becomes of the lent memory: document 02, ticket 2.
use Rattle.std.specs.Prelude.{ℕ, ◌-◌, ◌≤◌, ◌≡◌, true, false, List, length, Result, Ok, Err}
use Rattle.definitions.specs.declared.Style.TheVariants.{Strict}
use Rattle.definitions.specs.Outcome.{Outcome, accepted, refused}
use Rattle.definitions.specs.Name.{Name}
use Rattle.definitions.specs.CallerNames.{names_in}
use Rattle.definitions.specs.Term.{ProofTerm}
use Rattle.definitions.specs.Display.{display_term}
use Rattle.definitions.specs.Answers.{named_term}
use Rattle.definitions.specs.TermText.{term_text_limit, all_admitted, without_ids, Restorable}
use Rattle.definitions.specs.TermMemory.{too_short, term_answer}
use Rattle.definitions.proofs.PrefixCode.{Bytes}
use Rattle.term_meaning.specs.Memory.{Memory, ReadTerm}
use Rattle.term_reader.specs.declared.TermSize.{TermSize}
use Rattle.term_reader.specs.Answered.{size_of, records_by, NamesBy, code_by, room_of}
use Rattle.definitions.specs.declared.Located.{Located}

unfoldable pub reading_of : Outcome (ProofTerm Name) → Result TermSize Located
reading_of (accepted t) = Ok (size_of t)
reading_of (refused r) = Err (record { refusal = r; column = 0 })

-- an outcome as it is handed back, and every number and byte of the lent memory
pub record HandsTerm (outcome : Outcome (ProofTerm Name)) (text records names code records' names' code' : List ℕ) (r : Result TermSize Located) : Type 0 where
  pub answer : r ≡ reading_of outcome
  pub records_are : records' ≡ records_by outcome records
  pub names_are : NamesBy outcome text names names'
  pub code_is : code' ≡ code_by outcome code

-- the answer of the definitions
abbrev pub ReadsOf : List ℕ → List ℕ → List ℕ → List ℕ → List ℕ → List ℕ → List ℕ → List ℕ → Result TermSize Located → Type 0
ReadsOf list text records names code records' names' code' r =
    HandsTerm (term_answer (room_of records names code) (names_in list) text) text records names code records' names' code' r

-- Given room, the strict text of a sheet's term, no longer than is read, is read as that term with its ids set to 0, provided that the
-- listed names are admitted and the term is restorable.
unfoldable pub RestoresOf : List ℕ → List ℕ → List ℕ → List ℕ → List ℕ → List ℕ → List ℕ → List ℕ → Result TermSize Located → Type 0
RestoresOf list text records names code records' names' code' r =
    (s : List ℕ) (t : ProofTerm Name) → Bytes s → named_term s ≡ accepted t → display_term Strict t ≡ text → length text ≤ term_text_limit
    → all_admitted (names_in list) ≡ true → Restorable (names_in list) t → too_short (room_of records names code) (without_ids t) ≡ false
    → HandsTerm (accepted (without_ids t)) text records names code records' names' code' r

-- the lent memory of a term of these sizes, with the text that it was read from
unfoldable pub memory_of : List ℕ → List ℕ → List ℕ → List ℕ → TermSize → Memory
memory_of text records names code size = record { records = records; text = text; pairs = names; count = size.names; code = code }

-- What was read means a term: the last record holds the one that the text is read as, whose strict text is that text, and its readers
-- may know of it what they know of a sheet's term.
unfoldable pub MeansTerm : List ℕ → List ℕ → List ℕ → List ℕ → List ℕ → Result TermSize Located → Type 0
MeansTerm list text records' names' code' r =
    (size : TermSize) → r ≡ Ok size → ReadTerm (names_in list) (memory_of text records' names' code' size) (size.nodes - 1)
