-- The loop's invariant: a shallow proposition stands from `at` on exactly where the parts that are left, less deep by one,
-- stand from `i` on. The calls end by the depth.
use Prim.Native.Nat.{◌-◌}
use lib.ListN.{get_or}
use Rattle.prefix_code.specs.Scan.{shallow_coding}
use Rattle.prefix_code.specs.Head.{parts_after}
use Rattle.prefix_code.proofs.Runs.{Walked}
use Rattle.prefix_code.proofs.+shallow_end.Given as goal

abbrev pub decreases-shallow_end : goal.decreases-shallow_end
decreases-shallow_end l = l.depth

abbrev pub invariant-loop : goal.invariant-loop
invariant-loop l = Walked (shallow_coding l.names l.depth) (shallow_coding l.names (l.depth - 1)) l.code l.at l.i (parts_after (get_or l.code l.at 0) - l.counter)
