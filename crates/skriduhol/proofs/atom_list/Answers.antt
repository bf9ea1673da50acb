-- The list with its refusal located.
use Rattle.std.proofs.Common.{rules}
use Rattle.definitions.specs.Answers.{atoms_answer}
use Rattle.proof_term_lists.specs.Numbers.{list_numbers}
use Rattle.located.proofs.AfterHeader.{list_after_header}
use Rattle.skriduhol.specs.Lists.{list_answer}
use Rattle.located.proofs.Back.{mapped}
use Rattle.skriduhol.proofs.Located.{written_refused, fills_back}
use Rattle.skriduhol.proofs.atom_list.Goals as goal

pub map_err-requires : goal.map_err-requires
unfolding list_answer
map_err-requires c = λ r e. let after = list_after_header _ _ _ (written_refused c.label_list-written.ensures e) in search rules

pub returns : goal.returns
unfolding list_answer list_numbers atoms_answer
returns c = fills_back _ c.label_list-written.ensures (mapped _ c.label_list-written.result c.map_err.ensures.cases (λ x l e p. search rules))
