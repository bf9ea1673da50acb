-- A label count as the program answers it.
use Rattle.std.specs.Prelude.{ℕ, Result, Ok, Err}
use Rattle.definitions.specs.Outcome.{Outcome, accepted, refused}
use Rattle.definitions.specs.declared.Refusal.{Refusal}

unfoldable pub counted_of : Outcome ℕ → Result ℕ Refusal
counted_of (accepted n) = Ok n
counted_of (refused r) = Err r
