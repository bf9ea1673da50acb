-- The kind says whether it is an ascription, and the test whether its body is an earlier record.
use mathlib.Core.Path.{sym, ◌∙◌}
use Rattle.proof_term.proofs.Views.{number_of_kind}
use Rattle.proof_term_display.specs.Ascriptions.{no_ascription}
use Rattle.proof_term_display.proofs.Ascriptions.{earlier_body}
use Rattle.proof_term_display.proofs.ascribed_body.Goals as goal

pub returns : goal.returns
returns c =
    let kind = number_of_kind (sym c.kind_at.ensures ∙ c.in-TypeAscription.is) (λ unit. cc) in
    rw c.then_some.ensures (earlier_body kind c.field-body.ensures.0)

pub returns-in_default : goal.returns-in_default
returns-in_default c = no_ascription
