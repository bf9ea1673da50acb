-- The walk back over the premisses by the size table.
use Prim.Native.Nat.{◌-◌, ◌≤◌}
use mathlib.Core.Path.{◌≡◌}
use Rattle.definitions.specs.Sheet.{premiss_count}
use Rattle.steps.proofs.Walk.{Walk}
use Rattle.steps.proofs.sized_steps.SizedSteps.next_start.Given as goal

abbrev pub invariant-loop : goal.invariant-loop
invariant-loop l =
    Walk l.self.step_records.now l.self.steps l.counter l.start × (l.counter ≤ l.needed) × (l.needed ≡ premiss_count l.self.step_records.now l.self.steps)

abbrev pub decreases-loop : goal.decreases-loop
decreases-loop l = l.needed - l.counter
