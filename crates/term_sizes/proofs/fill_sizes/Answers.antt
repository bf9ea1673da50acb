-- Each turn of the loop keeps the count of one record more.
use native.Mathlib.Omega.{arith}
use Rattle.term_sizes.proofs.Filling.{filled_more, filled_all}
use Rattle.term_sizes.proofs.fill_sizes.Goals as goal

pub loop-m-preserved : goal.loop-m-preserved
loop-m-preserved c = filled_more _ _ _ (omega (arith, c.requires, c.loop-m.invariant.long)) c.loop-m.invariant c.count_nodes-count.ensures.1

-- the last turn
pub returns-2 : goal.returns-2
returns-2 c =
    filled_all (omega arith) (filled_more _ _ _ (omega (arith, c.requires, c.loop-m.invariant.long)) c.loop-m.invariant c.count_nodes-count.ensures.1)
