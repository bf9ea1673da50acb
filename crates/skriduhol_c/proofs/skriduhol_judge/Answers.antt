-- Yes and no are handed over as numbers, no with its node.
use mathlib.Core.Path.{ap, ◌∙◌}
use Rattle.std.specs.Prelude.{Ok}
use Rattle.skriduhol_c.proofs.Judged.{yes_handed, no_handed, refusal_handed}
use Rattle.skriduhol_c.proofs.skriduhol_judge.Goals as goal

pub returns-in-Ok-None : goal.returns-in-Ok-None
returns-in-Ok-None c = yes_handed _ _ _ c.judge.ensures (c.in-Ok-None.is ∙ ap Ok c.in-Ok-None.field-0-is) c.hand.ensures

pub returns-in-Ok-Some : goal.returns-in-Ok-Some
returns-in-Ok-Some c = no_handed _ _ _ c.judge.ensures (c.in-Ok-Some.is ∙ ap Ok c.in-Ok-Some.field-0-is) c.hand-in-Ok-Some.ensures

pub returns-in-Err : goal.returns-in-Err
returns-in-Err c = refusal_handed _ _ _ c.judge.ensures c.in-Err.is c.hand-in-Err.ensures
