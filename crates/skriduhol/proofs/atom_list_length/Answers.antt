-- The length of the list, or its refusal located.
use mathlib.Core.Path.{refl, ap, ◌∙◌}
use Rattle.std.proofs.Common.{rules}
use Rattle.definitions.specs.Answers.{atoms_answer}
use Rattle.proof_term_lists.specs.Numbers.{list_numbers}
use Rattle.skriduhol.specs.Lengths.{whole_atoms}
use Rattle.located.proofs.Back.{mapped, back}
use Rattle.skriduhol.proofs.Located.{written_back}
use Rattle.skriduhol.proofs.Lengths.{list_locatable}
use Rattle.skriduhol.proofs.atom_list_length.Goals as goal

pub map_err-requires : goal.map_err-requires
map_err-requires c = λ r e. let after = list_locatable _ _ c.list_length-length.ensures e in search rules

pub returns : goal.returns
unfolding atoms_answer whole_atoms list_numbers
returns c =
    let located = mapped _ c.list_length-length.result c.map_err.ensures.cases (λ x l e p. search rules) in
    record { told = located ∙ ap (back _) c.list_length-length.ensures ∙ written_back _ _; in_room = λ room. refl }
