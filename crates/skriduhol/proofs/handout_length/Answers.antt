-- The length of the text of the version that is asked for, or 21.
use Rattle.std.proofs.Common.{rules}
use Rattle.definitions.specs.Answers.{text_answer}
use Rattle.skriduhol.specs.Lengths.{whole_text}
use Rattle.located.proofs.Back.{mapped}
use Rattle.skriduhol.proofs.Lengths.{measured, unmeasured, text_locatable}
use Rattle.skriduhol.proofs.handout_length.Goals as goal

pub returns-in_err-asked : goal.returns-in_err-asked
unfolding text_answer whole_text
returns-in_err-asked c = unmeasured _ _ (c.asked_version.ensures _) _ c.in_err-asked.was (search rules)

pub map_err-requires : goal.map_err-requires
map_err-requires c = λ r e. let after = text_locatable _ _ _ c.sheet_text_length-length.ensures e in search rules

pub returns : goal.returns
unfolding text_answer whole_text
returns c =
    let located = mapped _ c.sheet_text_length-length.result c.map_err.ensures.cases (λ x l e p. search rules) in
    measured _ _ (c.asked_version.ensures _) _ c.in_ok-asked.was c.sheet_text_length-length.ensures located
