-- What a filter by strength leaves of the connective there.
use borrow.Author.Rules.{rules}
use Rattle.prop_frames.proofs.Sides.{filtered}
use Rattle.prop_frames.proofs.goes_on.Goals as goal

pub returns : goal.returns
returns c = filtered c.args.text.now c.args.at c.args.least _ (λ x b tested. search rules) _ _ c.connective_at.ensures c.filter.ensures
