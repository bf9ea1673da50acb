-- Each slot so far holds another's number.
use Prim.Native.Nat.{ℕ, ◌+◌, ◌%◌, ◌<◌}
use mathlib.Core.Bool.{false}
use Rattle.definitions.specs.NameIndex.{slot_at}
use Rattle.name_index.specs.Probed.{Taken}
use Rattle.name_index.proofs.probe_by.Given as goal

abbrev pub invariant-loop-step : goal.invariant-loop-step
invariant-loop-step g l = (k : ℕ) → k < l.step → Taken l.slots ((l.start + k) % 1024) × goal.F-post g l.is_equal (slot_at l.slots ((l.start + k) % 1024)) false
