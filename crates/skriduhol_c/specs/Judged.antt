-- What a caller in C is handed of a judgement: beside a number, a value and a column, the node at which the rules stop.
use Rattle.std.specs.Prelude.{ℕ, ◌≡◌, List}
use Rattle.definitions.specs.Outcome.{Outcome, accepted, refused}
use Rattle.definitions.specs.Checker.{Judged, derived, stopped}
use Rattle.definitions.specs.CheckAnswers.{sheet_judgement}
use Rattle.skriduhol_c.specs.Handed.{Hands}

-- 1 where the rules derive the judgement, 0 where they stop
unfoldable pub derived_or_not : Judged (Unit {0}) → ℕ
derived_or_not (derived u) = 1
derived_or_not (stopped n) = 0

-- the node at which they stop, else 0
unfoldable pub node_of : Outcome (Judged (Unit {0})) → ℕ
node_of (accepted (derived u)) = 0
node_of (accepted (stopped n)) = n
node_of (refused r) = 0

-- all four, whatever they were before
pub record HandsJudged (s hs : List ℕ) (k value column node result : ℕ) : Type 0 where
  pub handed : Hands derived_or_not s (sheet_judgement s hs k) value column result
  pub stops : node ≡ node_of (sheet_judgement s hs k)
