-- The version that a number asks for, as the program answers it.
use Rattle.std.specs.Prelude.{ℕ, List, Result, Ok, Err}
use Rattle.definitions.specs.declared.Version.{Version}
use Rattle.definitions.specs.declared.Located.{Located}
use Rattle.definitions.specs.Outcome.{Outcome, accepted, refused}
use Rattle.definitions.specs.Answers.{located}

unfoldable pub asked_of : List ℕ → Outcome Version → Result Version Located
asked_of s (accepted v) = Ok v
asked_of s (refused r) = Err (located s r)
