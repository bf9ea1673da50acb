-- The room stays within the board's.
use Rattle.std.proofs.Common.{◌≤◌}
use Rattle.limits.proofs.room_of.Given as goal

abbrev pub invariant-loop-b : goal.invariant-loop-b
invariant-loop-b l = l.room ≤ 65536
