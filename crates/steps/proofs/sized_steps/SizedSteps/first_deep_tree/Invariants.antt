-- The nestings are kept step by step, up to the first that is too deep.
use Prim.Native.Nat.{ℕ, ◌-◌}
use mathlib.Core.Bool.{Bool}
use mathlib.Core.List.{List}
use lib.Dec.{ltb}
use Rattle.std.specs.Prelude.{ℕ}
use Rattle.definitions.specs.Tree.{height, tree_in}
use Rattle.steps.specs.Tables.{HeightTable}
use Rattle.steps.proofs.Filling.{Filling}
use Rattle.steps.proofs.sized_steps.SizedSteps.first_deep_tree.Given as goal

-- a step's tree nests deeper than the limit
abbrev pub deeper : List ℕ → ℕ → ℕ → List ℕ → List ℕ → ℕ → Bool
deeper records limit names pairs code k = ltb limit (height (tree_in names pairs code records k))

abbrev pub invariant-loop-k : goal.invariant-loop-k
invariant-loop-k l =
    Filling (deeper l.self.step_records.now l.limit) (HeightTable l.self.step_records.now) l.self.steps l.initial.heights l.heights l.k

abbrev pub decreases-loop-k : goal.decreases-loop-k
decreases-loop-k l = l.self.steps - l.k
