-- One head after the other; the first that is not plain decides.
use Prim.Native.Nat.{◌-◌}
use lib.ListN.{length}
use Rattle.checkable.proofs.Plain.{Looking}
use Rattle.checkable.proofs.is_quantifier_free.Given as goal

abbrev pub invariant-loop-i : goal.invariant-loop-i
invariant-loop-i l = Looking l.names l.code l.i

abbrev pub decreases-loop-i : goal.decreases-loop-i
decreases-loop-i l = length l.code - l.i
