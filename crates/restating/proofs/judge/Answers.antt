-- The tests in their order.
use mathlib.Core.Path.{◌≡◌, sym, ◌∙◌}
use Rattle.definitions.specs.Outcome.{refuse}
use Rattle.definitions.specs.Sheet.{names, propositions}
use Rattle.definitions.specs.Admission.{bad_step}
use Rattle.sheet.proofs.Admitted.{beside_header}
use Rattle.restating.proofs.Tests.{bad_known, judged_bad, judged_full, judged_compared}
use Rattle.restating.proofs.judge.Goals as goal
use Rattle.restating.proofs.judge.Goals.{After-bad_step}

-- the test of the step, in the sheet's own words
tested : (c : After-bad_step) → let s = c.args.sheet.now in
    c.bad_step.result ≡ bad_step (names s) (propositions s) c.args.step.now 0
tested c = bad_known (rw c.admitted.ensures.is at (beside_header c.header-h.ensures.is c.header-h.ensures.accepted)) _ c.bad_step.ensures

pub returns-then-bad_step-clause-value : goal.returns-then-bad_step-clause-value
unfolding refuse
returns-then-bad_step-clause-value c =
    rw c.at.ensures (judged_bad _ _ (sym (tested (goal.at.returns-then-bad_step-clause-value c).After-bad_step) ∙ c.if-bad_step.true))

pub returns-then-no_step_left-clause-value : goal.returns-then-no_step_left-clause-value
unfolding refuse
returns-then-no_step_left-clause-value c =
    rw c.at-then-no_step_left.ensures
    (judged_full _ _ (sym (tested (goal.at.returns-then-no_step_left-clause-value c).After-bad_step) ∙ c.if-bad_step.false)
    (sym c.no_step_left.ensures ∙ c.if-no_step_left.true))

pub compare_root-requires : goal.compare_root-requires
compare_root-requires c =
    rw c.admitted-2.ensures.is (sym (tested (goal.at.compare_root-requires c).After-bad_step) ∙ c.if-bad_step.false)

pub returns-clause-value : goal.returns-clause-value
returns-clause-value c =
    judged_compared _ _ (sym (tested (goal.at.returns-clause-value c).After-bad_step) ∙ c.if-bad_step.false)
    (sym c.no_step_left.ensures ∙ c.if-no_step_left.false) (rw c.admitted-2.ensures.is at c.compare_root.ensures)
