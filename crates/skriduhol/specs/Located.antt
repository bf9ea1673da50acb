-- Each answer as it is handed back: a refusal with its column.
use Rattle.std.specs.Prelude.{ℕ, ◌≡◌, Bool, List, length, Err, Ok, Result}
use Rattle.definitions.specs.Outcome.{Outcome, accepted, refused}
use Rattle.definitions.specs.Answers.{located}
use Rattle.output.specs.Written.{filled}
use Rattle.definitions.specs.declared.Located.{Located}

-- Of a sheet's bytes:
module _ (s : List ℕ) where
  unfoldable pub filled_of : Outcome (List ℕ) → Result ℕ Located
  filled_of (accepted a) = Ok (length a)
  filled_of (refused r) = Err (located s r)

  -- an accepted answer stands at the start of the lent memory, and a refusal leaves all as it was
  pub record FillsOf (outcome : Outcome (List ℕ)) (before after : List ℕ) (r : Result ℕ Located) : Type 0 where
    pub answer : r ≡ filled_of outcome
    pub memory : after ≡ filled outcome before

  unfoldable pub count_of : Outcome ℕ → Result ℕ Located
  count_of (accepted n) = Ok n
  count_of (refused r) = Err (located s r)

  unfoldable pub verdict_of : Outcome Bool → Result Bool Located
  verdict_of (accepted same) = Ok same
  verdict_of (refused r) = Err (located s r)
