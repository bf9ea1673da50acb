-- The length of the datatype list of the version that is asked for, or 21.
use Rattle.std.proofs.Common.{rules}
use Rattle.definitions.specs.Answers.{datatypes_answer}
use Rattle.proof_term_lists.specs.Numbers.{list_numbers}
use Rattle.skriduhol.specs.Lengths.{whole_datatypes}
use Rattle.located.proofs.Back.{mapped}
use Rattle.skriduhol.proofs.Lengths.{measured, unmeasured, list_locatable}
use Rattle.skriduhol.proofs.handout_datatypes_length.Goals as goal

pub returns-in_err-asked : goal.returns-in_err-asked
unfolding datatypes_answer whole_datatypes
returns-in_err-asked c = unmeasured _ _ (c.asked_version.ensures _) _ c.in_err-asked.was (search rules)

pub map_err-requires : goal.map_err-requires
map_err-requires c = λ r e. let after = list_locatable _ _ c.list_length-length.ensures e in search rules

pub returns : goal.returns
unfolding datatypes_answer whole_datatypes list_numbers
returns c =
    let located = mapped _ c.list_length-length.result c.map_err.ensures.cases (λ x l e p. search rules) in
    measured _ _ (c.asked_version.ensures _) _ c.in_ok-asked.was c.list_length-length.ensures located
