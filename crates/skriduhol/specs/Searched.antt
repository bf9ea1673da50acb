-- What a search for a name of a sheet answers, as it is handed back.
use Rattle.std.specs.Prelude.{ℕ, List, Option, Result, Ok, Err}
use Rattle.definitions.specs.Outcome.{Outcome, accepted, refused, map_outcome}
use Rattle.definitions.specs.Name.{Name}
use Rattle.definitions.specs.Sheet.{names, name_of}
use Rattle.definitions.specs.Admission.{header_checks}
use Rattle.definitions.specs.Answers.{located}
use Rattle.definitions.specs.NameIndex.{plain_search}
use Rattle.definitions.specs.declared.Located.{Located}

-- Of a sheet's bytes:
module _ (s : List ℕ) where
  unfoldable pub searched_of : Outcome (Option ℕ) → Result (Option ℕ) Located
  searched_of (accepted found) = Ok found
  searched_of (refused r) = Err (located s r)

  -- the plain search's answer, or the first of refusals 1 to 3
  unfoldable pub plain_answer : Name → Outcome (Option ℕ)
  plain_answer x = map_outcome (λ _. plain_search (name_of s) (names s) x) (header_checks s)
