-- The loop's invariant: a proposition stands from `at` on exactly where the needed ones stand from `i` on.
use Prim.Native.Nat.{◌+◌, ◌-◌, ◌≤◌}
use lib.ListN.{length}
use Rattle.prefix_code.proofs.Propositions.{Needed}
use Rattle.prefix_code.proofs.scan.Given as goal

abbrev pub invariant-loop-needed : goal.invariant-loop-needed
invariant-loop-needed l = Needed l.names l.code l.at l.i l.needed × (l.needed ≤ l.i + 1)

abbrev pub decreases-loop-needed : goal.decreases-loop-needed
decreases-loop-needed l = length l.code - l.i
