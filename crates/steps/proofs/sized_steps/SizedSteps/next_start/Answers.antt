-- The walk back over the premisses by the size table.
use native.Mathlib.Omega.{arith}
use Rattle.steps.proofs.Walk.{walk_start, size_fits, walk_on, walk_out, walk_done}
use Rattle.steps.proofs.sized_steps.SizedSteps.next_start.Goals as goal

pub loop-init : goal.loop-init
loop-init c = (walk_start _ _, omega arith, c.premiss_count-needed.ensures)

pub returns-then-start-eq0 : goal.returns-then-start-eq0
returns-then-start-eq0 c = walk_out c.loop.invariant.0 c.if-start-eq0.true (omega arith)

pub overflow_sub-start-in-loop : goal.overflow_sub-start-in-loop
overflow_sub-start-in-loop c = size_fits c.loop.invariant.0 _ c.args.self.now.sized.sizes (omega arith)

pub loop-preserved : goal.loop-preserved
loop-preserved c =
    let l = c.loop.invariant in
    (walk_on l.0 _ c.args.self.now.sized.sizes (omega arith), omega arith, l.2)

pub returns : goal.returns
returns c = walk_done c.loop.invariant.0 (omega arith)
