-- One step more is written behind the steps before it.
use Rattle.renumbering.proofs.Steps.{step_added, none_added}
use Rattle.renumbering.proofs.put_renumbered_steps.Goals as goal

pub loop-k-init : goal.loop-k-init
loop-k-init g c = none_added _ _ _ g.met.S.Sink.laws _

pub loop-k-preserved : goal.loop-k-preserved
loop-k-preserved g c = step_added _ _ _ _ g.met.S.Sink.laws c.loop-k.invariant c.step_at.ensures c.renumber_step.ensures c.put_step.ensures
