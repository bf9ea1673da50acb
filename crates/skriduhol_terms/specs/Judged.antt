-- A judgement as it is handed back: the node at which the rules stop, if they do; or a refusal with its column.
use Rattle.std.specs.Prelude.{ℕ, ◌<◌, ◌≡◌, List, [], Option, None, Some, Result, Ok, Err}
use Rattle.definitions.specs.Outcome.{Outcome, accepted, refused}
use Rattle.definitions.specs.Sheet.{propositions}
use Rattle.definitions.specs.Answers.{located}
use Rattle.definitions.specs.Checker as rules
use Rattle.definitions.specs.Checker.{derived, stopped}
use Rattle.definitions.specs.Sound.{Sound}
use Rattle.definitions.specs.CheckAnswers.{named_prop, sheet_judgement}
use Rattle.checker_laws.specs.Judgements.{root_number}
use Rattle.definitions.specs.declared.Located.{Located}

unfoldable pub judged_of : List ℕ → Outcome (rules.Judged (Unit {0})) → Result (Option ℕ) Located
judged_of s (accepted (derived u)) = Ok None
judged_of s (accepted (stopped n)) = Ok (Some n)
judged_of s (refused r) = Err (located s r)

-- What is answered: document 02, ticket 5. On a sound sheet, from no hypotheses, it is yes for each number of the root's proposition,
-- and so for the one that the root has.
pub record JudgesOf (s hs : List ℕ) (k : ℕ) (r : Result (Option ℕ) Located) : Type 0 where
  pub answer : r ≡ judged_of s (sheet_judgement s hs k)
  pub sound : (d : Sound s) → hs ≡ [] → k < propositions s → named_prop s k ≡ d.deduced.prop → r ≡ Ok None
  pub root : Sound s → hs ≡ [] → k ≡ root_number s → r ≡ Ok None
