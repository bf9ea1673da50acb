-- A side weighs less than the whole, so the sum of both weights falls.
use Prim.Native.Nat.{◌+◌}
use Rattle.prop_numbers.proofs.Comparing.{weight}
use Rattle.prop_numbers.proofs.Propositions.+same.Given as goal

abbrev pub decreases-same : goal.decreases-same
decreases-same l = weight l.p + weight l.q
