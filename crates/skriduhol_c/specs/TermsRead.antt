-- What a caller in C is handed of a text that is read: beside a number, a value and a column, how many names and bytes of code.
use Rattle.std.specs.Prelude.{ℕ, ◌≡◌, List, length}
use Rattle.definitions.specs.Outcome.{Outcome, accepted, refused}
use Rattle.definitions.specs.Name.{Name}
use Rattle.definitions.specs.CallerNames.{names_in}
use Rattle.definitions.specs.Term.{ProofTerm}
use Rattle.definitions.specs.TermText.{nodes}
use Rattle.definitions.specs.TermReader.{read_answer}
use Rattle.definitions.specs.TermMemory.{different_names, text_labels, labels_size, term_answer}
use Rattle.term_reader.specs.Answered.{records_by, NamesBy, code_by, room_of}
use Rattle.skriduhol_c.specs.Handed.{number_of, value_of}

-- what is accepted, as one number, else 0
unfoldable pub count_by : {A : Type 0} → (A → ℕ) → Outcome A → ℕ
count_by says (accepted a) = says a
count_by says (refused r) = 0

unfoldable pub names_of : ProofTerm Name → ℕ
names_of t = length (different_names t)

unfoldable pub code_of : ProofTerm Name → ℕ
code_of t = labels_size (text_labels t)

-- an outcome as all five numbers, whatever they were before
pub record HandsSizes (outcome : Outcome (ProofTerm Name)) (value column name_count code_length_lem result : ℕ) : Type 0 where
  pub number : result ≡ number_of outcome
  pub said : value ≡ value_of nodes outcome
  pub drawn : column ≡ 0
  pub named : name_count ≡ count_by names_of outcome
  pub coded : code_length_lem ≡ count_by code_of outcome

-- and every number and byte of the lent memory
pub record HandsOutcome
    (outcome : Outcome (ProofTerm Name))
    (text records names code records' names' code' : List ℕ)
    (value column name_count code_length_lem result : ℕ)
    : Type 0 where
  pub sizes : HandsSizes outcome value column name_count code_length_lem result
  pub records_are : records' ≡ records_by outcome records
  pub names_are : NamesBy outcome text names names'
  pub code_is : code' ≡ code_by outcome code

-- the answer of the definitions
abbrev pub HandsRead
    : List ℕ → List ℕ → List ℕ → List ℕ → List ℕ → List ℕ → List ℕ → List ℕ → ℕ → ℕ → ℕ → ℕ → ℕ → Type 0
HandsRead list text records names code records' names' code' value column name_count code_length_lem result =
    HandsOutcome (term_answer (room_of records names code) (names_in list) text) text records names code records' names' code'
    value column name_count code_length_lem result

-- the sizes given room
abbrev pub HandsReadLength : List ℕ → List ℕ → ℕ → ℕ → ℕ → ℕ → ℕ → Type 0
HandsReadLength list text value column name_count code_length_lem result =
    HandsSizes (read_answer (names_in list) text) value column name_count code_length_lem result
