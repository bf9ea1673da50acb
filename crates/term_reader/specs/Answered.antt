-- What is answered of a text, and what becomes of every number and byte of the lent memory.
use Rattle.std.specs.Prelude.{ℕ, ◌*◌, ◌<◌, ◌≤◌, ◌≡◌, Bool, true, false, ◌||◌, List, [], ◌++◌, length, get_or, drop, ltb, Result, Ok, Err}
use Rattle.definitions.specs.declared.Style.TheVariants.{Strict}
use Rattle.definitions.specs.Outcome.{Outcome, accepted, refused}
use Rattle.definitions.specs.Name.{Name}
use Rattle.definitions.specs.CallerNames.{names_in}
use Rattle.definitions.specs.Sheet.{pair_size, pair_end, marked}
use Rattle.definitions.specs.Term.{ProofTerm}
use Rattle.definitions.specs.Display.{display_term}
use Rattle.definitions.specs.Answers.{named_term}
use Rattle.definitions.specs.TermText.{nodes, term_text_limit, all_admitted, without_ids, Restorable}
use Rattle.definitions.specs.TermMemory.{different_names, place, text_labels, records_of, store_labels, record_numbers, TermRoom, too_short, term_answer}
use Rattle.definitions.proofs.PrefixCode.{Bytes}
use Rattle.words.specs.declared.name_table.NameTable.{NameTable}
use Rattle.term_stack.specs.declared.Work.{Work}
use Rattle.term_stack.specs.Standing.{ThereIs}
unfoldable pub use Rattle.term_reader.specs.Whole.{size_of}
use Rattle.term_reader.specs.Whole.{Measured}
use Rattle.term_reader.specs.declared.TermSize.{TermSize}
use Rattle.definitions.specs.declared.Refusal.{Refusal}

unfoldable pub answer_of : Outcome (ProofTerm Name) → Result TermSize Refusal
answer_of (accepted t) = Ok (size_of t)
answer_of (refused r) = Err r

-- the records stand at the start
unfoldable pub records_by : Outcome (ProofTerm Name) → List ℕ → List ℕ
records_by (accepted t) before = records_of (place (different_names t)) 0 0 t ++ drop (record_numbers * nodes t) before
records_by (refused r) before = before

unfoldable pub code_by : Outcome (ProofTerm Name) → List ℕ → List ℕ
code_by (accepted t) before = store_labels (place (different_names t)) 0 (text_labels t) before
code_by (refused r) before = before

-- The pairs at the start mark these names in the text, and what lies behind them is as it was.
pub record PairsOf (names : List Name) (text before after : List ℕ) : Type 0 where
  pub same : length after ≡ length before
  pub marks : (i : ℕ) → i < length names → marked after text i ≡ get_or names i []
  pub within : (i : ℕ) → i < length names → pair_end after i ≤ length text
  pub rest : drop (pair_size * length names) after ≡ drop (pair_size * length names) before

unfoldable pub NamesBy : Outcome (ProofTerm Name) → List ℕ → List ℕ → List ℕ → Type 0
NamesBy (accepted t) text before after = PairsOf (different_names t) text before after
NamesBy (refused r) text before after = after ≡ before

pub record Answers (outcome : Outcome (ProofTerm Name)) (text records names code records' names' code' : List ℕ) (r : Result TermSize Refusal) : Type 0 where
  pub answer : r ≡ answer_of outcome
  pub records_are : records' ≡ records_by outcome records
  pub names_are : NamesBy outcome text names names'
  pub code_is : code' ≡ code_by outcome code

-- a room is too short for so many records, names and bytes of code
unfoldable pub short_for : ℕ → ℕ → ℕ → TermSize → Bool
short_for records names code size = ltb records (7 * size.nodes) || (ltb names (pair_size * size.names) || ltb code size.code)

-- so many records and names stand, or have room, in so many numbers and bytes
pub record Copyable (records names : ℕ) (size : TermSize) : Type 0 where
  pub records_fit : 7 * size.nodes ≤ records
  pub names_fit : 4 * size.names ≤ names

-- the term was measured, and no room is too short
pub record Fitting (t : ProofTerm Name) (list : List ℕ) (table : NameTable) (work : Work) (records names code : List ℕ) (size : TermSize) : Type 0 where
  pub measured : Measured t list table work size.code
  pub size_is : size ≡ size_of t
  pub fits : short_for (length records) (length names) (length code) size ≡ false

unfoldable pub HasRoom : List ℕ → NameTable → Work → List ℕ → List ℕ → List ℕ → TermSize → Type 0
HasRoom list table work records names code size =
    ThereIs (λ (t : ProofTerm Name). Fitting t list table work records names code size)

-- and then it is handed over
unfoldable pub HandsOver
    : List ℕ → NameTable → Work → List ℕ → List ℕ → List ℕ → TermSize → List ℕ → List ℕ → List ℕ → Type 0
HandsOver list table work records names code size records' names' code' =
    (t : ProofTerm Name) → Fitting t list table work records names code size
    → Answers (accepted t) table.text.now records names code records' names' code' (Ok size)

unfoldable pub room_of : List ℕ → List ℕ → List ℕ → TermRoom
room_of records names code = record { records = length records; names = length names; code = length code }

-- the answer of the definitions, in the lent memory
abbrev pub ReadsTerm : List ℕ → List ℕ → List ℕ → List ℕ → List ℕ → List ℕ → List ℕ → List ℕ → Result TermSize Refusal → Type 0
ReadsTerm list text records names code records' names' code' r =
    Answers (term_answer (room_of records names code) (names_in list) text) text records names code records' names' code' r

-- Given room, the strict text of a sheet's term, no longer than is read, is read as that term with its ids set to 0, provided that the
-- listed names are admitted and the term is restorable.
unfoldable pub RestoresTerm : List ℕ → List ℕ → List ℕ → List ℕ → List ℕ → List ℕ → List ℕ → List ℕ → Result TermSize Refusal → Type 0
RestoresTerm list text records names code records' names' code' r =
    (s : List ℕ) (t : ProofTerm Name) → Bytes s → named_term s ≡ accepted t → display_term Strict t ≡ text → length text ≤ term_text_limit
    → all_admitted (names_in list) ≡ true → Restorable (names_in list) t → too_short (room_of records names code) (without_ids t) ≡ false
    → Answers (accepted (without_ids t)) text records names code records' names' code' r
