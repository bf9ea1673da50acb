-- The walk back over the later premisses by the size table.
use Prim.Native.Nat.{◌+◌, ◌-◌, ◌≤◌}
use mathlib.Core.Path.{◌≡◌}
use Rattle.definitions.specs.Sheet.{premiss_count}
use Rattle.steps.proofs.Walk.{Walk}
use Rattle.proof_tree.proofs.step.premiss.Given as goal

abbrev pub invariant-loop : goal.invariant-loop
invariant-loop l =
    Walk l.steps.records.now l.k l.counter l.start × (l.counter ≤ l.later) × (l.position + 1 + l.later ≡ premiss_count l.steps.records.now l.k)

abbrev pub decreases-loop : goal.decreases-loop
decreases-loop l = l.later - l.counter
