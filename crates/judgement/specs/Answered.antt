-- The answer as the program gives it, for every sequence of bytes, every hypotheses and every proposition.
use Rattle.std.specs.Prelude.{ℕ, ◌<◌, ◌≡◌, List, [], Option, None, Some, Result, Ok, Err}
use Rattle.definitions.specs.Outcome.{Outcome, accepted, refused}
use Rattle.definitions.specs.Sheet.{propositions}
use Rattle.definitions.specs.Checker.{Judged, derived, stopped}
use Rattle.definitions.specs.Sound.{Sound}
use Rattle.definitions.specs.CheckAnswers.{named_prop, sheet_judgement}
use Rattle.checker_laws.specs.Judgements.{root_number}
use Rattle.definitions.specs.declared.Refusal.{Refusal}

-- the node at which the rules stop, or none where they derive the judgement
unfoldable pub judgement_of : Outcome (Judged (Unit {0})) → Result (Option ℕ) Refusal
judgement_of (accepted (derived u)) = Ok None
judgement_of (accepted (stopped n)) = Ok (Some n)
judgement_of (refused r) = Err r

-- What is answered: document 02, ticket 5. On a sound sheet, from no hypotheses, it is yes for each number of the root's proposition,
-- and so for the one that the root has.
pub record Judges (s hs : List ℕ) (k : ℕ) (r : Result (Option ℕ) Refusal) : Type 0 where
  pub answer : r ≡ judgement_of (sheet_judgement s hs k)
  pub sound : (d : Sound s) → hs ≡ [] → k < propositions s → named_prop s k ≡ d.deduced.prop → r ≡ Ok None
  pub root : Sound s → hs ≡ [] → k ≡ root_number s → r ≡ Ok None
