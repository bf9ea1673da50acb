-- The datatype list of the version that is asked for, or 21.
use Rattle.std.proofs.Common.{rules}
use Rattle.located.proofs.AfterHeader.{list_after_header}
use Rattle.skriduhol.specs.Lists.{list_answer}
use Rattle.located.proofs.Back.{mapped}
use Rattle.skriduhol.proofs.Located.{written_refused, fills_back}
use Rattle.skriduhol.proofs.Handouts.{datatypes_refused, datatypes_asked}
use Rattle.skriduhol.proofs.handout_datatypes.Goals as goal

pub returns-in_err-asked : goal.returns-in_err-asked
returns-in_err-asked c = datatypes_refused _ _ (c.asked_version.ensures _) c.in_err-asked.was (search rules) _

pub map_err-requires : goal.map_err-requires
unfolding list_answer
map_err-requires c = λ r e. let after = list_after_header _ _ _ (written_refused c.label_list-written.ensures e) in search rules

pub returns : goal.returns
returns c =
    let located = mapped _ c.label_list-written.result c.map_err.ensures.cases (λ x l e p. search rules) in
    datatypes_asked _ _ (c.asked_version.ensures _) c.in_ok-asked.was (fills_back _ c.label_list-written.ensures located)
