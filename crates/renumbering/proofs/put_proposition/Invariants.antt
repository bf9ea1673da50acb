-- The invariant: the propositions that are left decide what is left to write. The measure is the code that is left.
use Prim.Native.Nat.{◌-◌}
use lib.ListN.{length}
use Rattle.renumbering.proofs.Rows.{Remaining}
use Rattle.renumbering.proofs.put_proposition.Given as goal

abbrev pub invariant-loop-i : goal.invariant-loop-i
invariant-loop-i g l = Remaining l.names l.code l.numbers g.S.Sink.puts l.initial.sink l.sink l.i

abbrev pub decreases-loop-i : goal.decreases-loop-i
decreases-loop-i g l = length l.code - l.i
