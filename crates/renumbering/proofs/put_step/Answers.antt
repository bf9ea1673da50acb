-- The rule, the premiss count, the identifiers and the conclusion with the column stand one after another.
use Rattle.renumbering.proofs.Steps.{step_written}
use Rattle.renumbering.proofs.put_step.Goals as goal

pub returns : goal.returns
returns g c =
    step_written _ g.met.S.Sink.laws c.put.ensures c.put-2.ensures c.put_u16s.ensures c.put_conclusion.ensures
