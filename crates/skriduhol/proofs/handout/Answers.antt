-- The text of the version that is asked for, or 21. Demand 3 holds of it, in the version that the number has.
use Rattle.std.proofs.Common.{rules}
use Rattle.located.proofs.AfterHeader.{text_after_header}
use Rattle.skriduhol.proofs.Accuracy.{accurate_text}
use Rattle.located.proofs.Back.{mapped}
use Rattle.skriduhol.proofs.Located.{written_refused, fills_back}
use Rattle.skriduhol.proofs.Handouts.{text_refused, text_asked}
use Rattle.skriduhol.proofs.handout.Goals as goal

pub returns-in_err-asked : goal.returns-in_err-asked
returns-in_err-asked c =
    let fills = text_refused _ _ (c.asked_version.ensures _) c.in_err-asked.was (search rules) _ _ in
    record { fills_of = fills; accurate_text = accurate_text _ _ _ fills }

pub map_err-requires : goal.map_err-requires
map_err-requires c = λ r e. let after = text_after_header _ _ _ _ (written_refused c.styled_text-written.ensures e) in search rules

pub returns : goal.returns
returns c =
    let located = mapped _ c.styled_text-written.result c.map_err.ensures.cases (λ x l e p. search rules) in
    let fills = text_asked _ _ (c.asked_version.ensures _) c.in_ok-asked.was _ (fills_back _ c.styled_text-written.ensures located) in
    record { fills_of = fills; accurate_text = accurate_text _ _ _ fills }
