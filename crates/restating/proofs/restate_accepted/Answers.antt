-- The new record is tested, and the sheet with it is written where the tests answer yes.
use borrow.Author.Rules.{rules}
use Rattle.restating.proofs.Answers.{told}
use Rattle.restating.proofs.Tests.{tests_refused, tests_no, tests_yes, steps_left}
use Rattle.restating.proofs.restate_accepted.Goals as goal

pub returns-in_err-same : goal.returns-in_err-same
returns-in_err-same c =
    let judged = c.in_err-same.ensures in
    told (tests_refused _ _ judged.accepted.root c.new_record-step.ensures judged.value _ _) (search rules)

pub returns-then-not-same : goal.returns-then-not-same
returns-then-not-same c =
    let judged = c.in_ok-same.ensures in
    rw c.at.ensures (tests_no _ _ judged.accepted.root c.new_record-step.ensures (rw c.if-not-same.true at judged.value) _ _)

pub write_sheet-requires : goal.write_sheet-requires
write_sheet-requires c =
    let judged = c.in_ok-same.ensures in
    rw c.admitted.ensures.is (steps_left _ _ judged.accepted.root c.new_record-step.ensures (rw c.if-not-same.false at judged.value))

pub returns : goal.returns
returns c =
    let judged = c.in_ok-same.ensures in
    tests_yes _ _ judged.accepted.root c.new_record-step.ensures (rw c.if-not-same.false at judged.value) _ (rw c.admitted.ensures.is at c.write_sheet.ensures)
