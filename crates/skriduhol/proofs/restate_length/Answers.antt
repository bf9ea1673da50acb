-- The length of the new sheet, or its refusal located.
use mathlib.Core.Path.{refl, ap, ◌∙◌}
use Rattle.std.proofs.Common.{rules}
use Rattle.definitions.specs.Restate.{restate_answer}
use Rattle.located.proofs.Back.{mapped, back}
use Rattle.skriduhol.proofs.Located.{written_back}
use Rattle.skriduhol.proofs.Lengths.{restatement_locatable}
use Rattle.skriduhol.proofs.restate_length.Goals as goal

pub map_err-requires : goal.map_err-requires
map_err-requires c = λ r e. let after = restatement_locatable _ _ c.restate_length-length.ensures e in search rules

pub returns : goal.returns
unfolding restate_answer
returns c =
    let located = mapped _ c.restate_length-length.result c.map_err.ensures.cases (λ x l e p. search rules) in
    record { told = located ∙ ap (back _) c.restate_length-length.ensures ∙ written_back _ _; in_room = λ room. refl }
