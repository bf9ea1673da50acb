-- The walk back over the premisses by the size table meets the deepest of them.
use Prim.Native.Nat.{◌-◌, ◌≤◌}
use mathlib.Core.Path.{◌≡◌}
use Rattle.definitions.specs.Sheet.{premiss_count}
use Rattle.steps.proofs.Walk.{Walk}
use Rattle.steps.proofs.Deepest.{Deepest}
use Rattle.steps.proofs.sized_steps.SizedSteps.tree_height.Given as goal

abbrev pub invariant-loop : goal.invariant-loop
invariant-loop l =
    Walk l.self.step_records.now l.k l.counter l.start × Deepest l.self.step_records.now l.k l.counter l.deepest × (l.counter ≤ l.premisses) × (l.premisses ≡ premiss_count l.self.step_records.now l.k)

abbrev pub decreases-loop : goal.decreases-loop
decreases-loop l = l.premisses - l.counter
