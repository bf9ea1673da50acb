-- The loop keeps the last pair's end beside the number of the next pair.
use Prim.Native.Nat.{◌-◌}
use mathlib.Core.Path.{◌≡◌}
use Rattle.definitions.specs.Sheet.{last_end}
use Rattle.sheet.specs.Pairs.{bad_pair}
use Rattle.definitions.proofs.Upward.{Passed}
use Rattle.sheet.proofs.pairs.first_bad_pair.Given as goal

abbrev pub invariant-loop-i : goal.invariant-loop-i
invariant-loop-i l =
    (Passed (bad_pair l.pairs l.bytes l.longest) l.count l.i) × (l.last_end ≡ last_end l.pairs l.i)

abbrev pub decreases-loop-i : goal.decreases-loop-i
decreases-loop-i l = l.count - l.i
