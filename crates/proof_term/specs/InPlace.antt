-- What becomes of the records that a struct holds, where it is changed in place.
use Rattle.std.specs.Prelude.{ℕ, ◌≡◌, List, length}
use Rattle.proof_term.specs.declared.term_records.TermRecords.{TermRecords}

-- the numbers and the count are changed as told, and the struct holds the same memory, as long as it was
pub record InPlace (Changed : List ℕ → ℕ → List ℕ → ℕ → Type 0) (before after : TermRecords) : Type 0 where
  pub changed : Changed before.numbers.now before.used after.numbers.now after.used
  pub same_memory : after.numbers.ghost_name ≡ before.numbers.ghost_name
  pub same_length : length after.numbers.now ≡ length before.numbers.now
