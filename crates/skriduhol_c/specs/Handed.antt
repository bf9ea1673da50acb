-- What a caller in C is handed of each outcome: a number as the result, a value and a column behind pointers, and the lent memory.
use Rattle.std.specs.Prelude.{ℕ, ◌≡◌, Bool, true, false, List, length, get_or, Option, None, Some, Result, MatchResult}
use Rattle.definitions.specs.declared.Located.{Located}
use Rattle.definitions.specs.Outcome.{Outcome, accepted, refused}
use Rattle.definitions.specs.Answers.{is_in_room, column_of}
use Rattle.definitions.specs.NameIndex.{free}
use Rattle.definitions.specs.Restate.{Given}
use Rattle.output.specs.Written.{filled}

-- 0 for what is accepted, else the refusal's number
unfoldable pub number_of : {A : Type 0} → Outcome A → ℕ
number_of (accepted a) = 0
number_of (refused r) = r.number

-- what is accepted, as one number, else the refusal's place
unfoldable pub value_of : {A : Type 0} → (A → ℕ) → Outcome A → ℕ
value_of says (accepted a) = says a
value_of says (refused r) = r.place

-- 0 for what is accepted, else the column that the refusal of a sheet hands back
unfoldable pub column_for : {A : Type 0} → List ℕ → Outcome A → ℕ
column_for s (accepted a) = 0
column_for s (refused r) = column_of s r

-- 1 for yes and 0 for no
unfoldable pub yes_or_no : Bool → ℕ
yes_or_no true = 1
yes_or_no false = 0

-- the number of a name, or that of a free slot for none
unfoldable pub number_or_free : Option ℕ → ℕ
number_or_free (Some i) = i
number_or_free None = free

-- what is given for a restatement: a kind, three numbers and a column, in the order of a step record
unfoldable pub given_in : List ℕ → Given
given_in numbers =
    record {
      kind = get_or numbers 0 0;
      first = get_or numbers 1 0;
      second = get_or numbers 2 0;
      third = get_or numbers 3 0;
      column = get_or numbers 4 0;
    }

-- the result, the value and the column of a sheet's outcome, whatever both were before
pub record Hands {A : Type 0} (says : A → ℕ) (s : List ℕ) (outcome : Outcome A) (value column result : ℕ) : Type 0 where
  pub number : result ≡ number_of outcome
  pub said : value ≡ value_of says outcome
  pub drawn : column ≡ column_for s outcome

-- the same of an answer for a sheet and a room that stands in lent memory, whose length is the value
pub record HandsFilled
    (answer : List ℕ → ℕ → Outcome (List ℕ))
    (s before after : List ℕ)
    (value column result : ℕ)
    : Type 0 where
  pub handed : Hands length s (answer s (length before)) value column result
  pub memory : after ≡ filled (answer s (length before)) before

-- the length of a sheet's whole answer, or its refusal; the answer in a room is the whole one or 16
pub record HandsLength
    (answer : List ℕ → ℕ → Outcome (List ℕ))
    (whole : List ℕ → Outcome (List ℕ))
    (s : List ℕ)
    (value column result : ℕ)
    : Type 0 where
  pub handed : Hands length s (whole s) value column result
  pub in_room : (room : ℕ) → answer s room ≡ is_in_room room (whole s)

-- the number, the place and the column of a refusal
pub record HandsRefusal (l : Located) (value column result : ℕ) : Type 0 where
  pub number : result ≡ l.refusal.number
  pub place : value ≡ l.refusal.place
  pub drawn : column ≡ l.column

-- 0 and a number, in no column
pub record HandsNumber (n value column result : ℕ) : Type 0 where
  pub number : result ≡ 0
  pub said : value ≡ n
  pub drawn : column ≡ 0

-- an answer of a number, or its refusal
abbrev pub HandsAnswer : Result ℕ Located → ℕ → ℕ → ℕ → Type 0
HandsAnswer answer value column result =
    MatchResult answer (λ n. HandsNumber n value column result) (λ l. HandsRefusal l value column result)
