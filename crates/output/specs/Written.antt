-- What an operation answers that fills lent memory, and what becomes of every byte of it: an accepted answer stands at the start, and
-- a refusal leaves all as it was.
use Rattle.std.specs.Prelude.{ℕ, ◌≡◌, List, ◌++◌, length, drop, Result, Ok, Err}
use Rattle.definitions.specs.Outcome.{Outcome, accepted, refused}
use Rattle.definitions.specs.declared.Refusal.{Refusal}

unfoldable pub written_of : Outcome (List ℕ) → Result ℕ Refusal
written_of (accepted a) = Ok (length a)
written_of (refused r) = Err r

unfoldable pub filled : Outcome (List ℕ) → List ℕ → List ℕ
filled (accepted a) before = a ++ drop (length a) before
filled (refused r) before = before

pub record Fills (outcome : Outcome (List ℕ)) (before after : List ℕ) (r : Result ℕ Refusal) : Type 0 where
  pub answer : r ≡ written_of outcome
  pub memory : after ≡ filled outcome before
