-- Each turn of the loop stores one element more.
use Rattle.output.proofs.Writing.{one_more_stored}
use Rattle.output.proofs.writer.copy.Goals as goal

pub loop-i-preserved : goal.loop-i-preserved
loop-i-preserved g c = one_more_stored _ _ _ _ c.loop-i-test.true c.index-part-i.is c.loop-i.invariant
