-- The byte in front of what stands says its connective, if it is a connective's.
use mathlib.Core.Path.{sym, ◌∙◌}
use Rattle.prop_numbers.proofs.Fronts.{binary_front, other_front, connective_stands}
use Rattle.prop_numbers.proofs.Propositions.connective.Goals as goal

pub returns-in-Binary : goal.returns-in-Binary
returns-in-Binary c =
    sym (connective_stands _ _ c.args.p c.if-p-lt-STANDING.true ∙ binary_front c.in-Binary.connective c.in_ok-connective.ensures c.in-Binary.is)

pub returns-in_default : goal.returns-in_default
returns-in_default c =
    sym (connective_stands _ _ c.args.p c.if-p-lt-STANDING.true ∙ other_front _ c.in_ok-connective.ensures c.in_default.not-Binary)
