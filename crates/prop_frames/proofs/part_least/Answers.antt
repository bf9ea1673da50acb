-- By the sign.
use Rattle.prop_frames.specs.Fronts.{part_least}
use Rattle.prop_frames.proofs.Fronts.{is_negated, least_other}
use Rattle.prop_frames.proofs.part_least.Goals as goal

pub returns-in-Negation : goal.returns-in-Negation
unfolding part_least
returns-in-Negation c = λ f e. rw (is_negated f (rw c.in-Negation.is at e))

pub returns-in_default : goal.returns-in_default
returns-in_default c = λ f e. least_other c.args.sign f c.in_default.not-Negation e
