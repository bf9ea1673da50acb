-- The conclusions of the last step and of one more.
use Rattle.sheet.proofs.Admitted.{beside_header}
use Rattle.sheet.proofs.RootHeight.{some_step}
use Rattle.restating.proofs.Tests.{last_step, root_in, step_in, compared}
use Rattle.restating.proofs.compare_root.Goals as goal

pub overflow_sub-h : goal.overflow_sub-h
overflow_sub-h c = some_step (beside_header c.header-h.ensures.is c.header-h.ensures.accepted)

pub step_at-root-requires : goal.step_at-root-requires
step_at-root-requires c =
    rw c.step_records.ensures.is (last_step (beside_header c.header-h.ensures.is c.header-h.ensures.accepted))

pub compare_conclusions-requires : goal.compare_conclusions-requires
compare_conclusions-requires c =
    let sheet = beside_header c.header-h.ensures.is c.header-h.ensures.accepted in
    rw (c.step_at-root.ensures, c.step_at-new.ensures, c.step_records.ensures.is) (root_in sheet, step_in _ _ c.requires)

pub returns : goal.returns
returns c =
    compared (beside_header c.header-h.ensures.is c.header-h.ensures.accepted) _
    (rw (c.step_at-root.ensures, c.step_at-new.ensures, c.step_records.ensures.is) at c.compare_conclusions.ensures)
