-- The record's number falls, and where it stays, an arm is asked, or what is checked is inferred. Each answer is one law over the
-- answers of the parts: the laws of the arms stand in `CheckArms`, `InferArms` and, for the head of a case and its binders, `Cases`.
use mathlib.Core.Path.{sym, ◌∙◌}
use native.Mathlib.Omega.{arith}
use Rattle.checker.proofs.Answers.{passed_on, derives}
use Rattle.checker.proofs.Steps.{node_low, known_stood, stood_low, expected_here}
use Rattle.checker.proofs.Fallback.{falls}
use Rattle.checker.proofs.Cases as cases
use Rattle.checker.proofs.CheckArms as arms
use Rattle.checker.proofs.InferArms as inferring
use Rattle.checker.proofs.Terms.+check_infer.Goals as goal

-- What is checked.
pub check-returns-in_err-side_of-in-OrLeft : goal.check-returns-in_err-side_of-in-OrLeft
check-returns-in_err-side_of-in-OrLeft t c =
    rw (passed_on c.from_residual.ensures)
    (arms.inl_stop c.requires.0 c.requires.1 c.field-first.ensures.0 (sym c.kind_at-kind.ensures ∙ c.in-OrLeft.is) c.in_err-side_of-in-OrLeft.ensures)

pub check-check-requires : goal.check-check-requires
check-check-requires t c =
    let call = arms.inl_call c.requires.0 c.requires.1 c.field-first.ensures.0 (sym c.kind_at-kind.ensures ∙ c.in-OrLeft.is) in
    (omega (arith, c.decreases, call.less), (call.ready, (arms.or_halves c.requires.0 c.requires.1 c.field-first.ensures.0 c.in_ok-side_of-in-OrLeft.ensures).left))

pub check-returns-in_ok-side_of-in-OrLeft : goal.check-returns-in_ok-side_of-in-OrLeft
check-returns-in_ok-side_of-in-OrLeft t c =
    arms.inl_done c.requires.0 c.requires.1 c.field-first.ensures.0 c.in_ok-side_of-in-OrLeft.ensures (sym c.kind_at-kind.ensures ∙ c.in-OrLeft.is) c.check.ensures

pub check-returns-in_err-side-in-OrRight : goal.check-returns-in_err-side-in-OrRight
check-returns-in_err-side-in-OrRight t c =
    rw (passed_on c.from_residual-in_err-side-in-OrRight.ensures)
    (arms.inr_stop c.requires.0 c.requires.1 c.field-first.ensures.0 (sym c.kind_at-kind.ensures ∙ c.in-OrRight.is) c.in_err-side-in-OrRight.ensures)

pub check-check-requires-in-OrRight : goal.check-check-requires-in-OrRight
check-check-requires-in-OrRight t c =
    let call = arms.inr_call c.requires.0 c.requires.1 c.field-first.ensures.0 (sym c.kind_at-kind.ensures ∙ c.in-OrRight.is) in
    (omega (arith, c.decreases, call.less), (call.ready, (arms.or_halves c.requires.0 c.requires.1 c.field-first.ensures.0 c.in_ok-side-in-OrRight.ensures).right))

pub check-returns-in_ok-side-in-OrRight : goal.check-returns-in_ok-side-in-OrRight
check-returns-in_ok-side-in-OrRight t c =
    arms.inr_done c.requires.0 c.requires.1 c.field-first.ensures.0 c.in_ok-side-in-OrRight.ensures (sym c.kind_at-kind.ensures ∙ c.in-OrRight.is) c.check-in-OrRight.ensures

pub check-check-requires-in-Abort : goal.check-check-requires-in-Abort
check-check-requires-in-Abort t c =
    let call = arms.abort_call c.requires.0 c.requires.1 c.field-first.ensures.0 (sym c.kind_at-kind.ensures ∙ c.in-Abort.is) in
    (omega (arith, c.decreases, call.less), (call.ready, rw c.bottom.ensures c.requires.0.ends.bottom))

pub check-returns-in_err-r-in-Ident : goal.check-returns-in_err-r-in-Ident
check-returns-in_err-r-in-Ident t c =
    rw (passed_on c.from_residual-in_err-r-in-Ident.ensures)
    (arms.fall_stop c.requires.0 c.requires.1 c.field-first.ensures.0 c.infer.ensures
    (falls (c.requires.0.well _ (omega arith)) c.field-first.ensures.0 (rw c.kind_at-kind.ensures at c.in-Ident.is)) c.in_err-r-in-Ident.was)

pub check-agree-requires : goal.check-agree-requires
check-agree-requires t c =
    rw (c.propositions.ensures.0, c.propositions.ensures.1)
    (record {
      code_len_bound = (c.requires.0.ends.space, c.infer.ensures.kept.long ∙ c.requires.0.slots);
      known = (arms.fall_known c.requires.0 c.requires.1 c.field-first.ensures.0 c.infer.ensures _ c.in_ok-r-in-Ident.was, known_stood c.requires.1);
    })

pub check-returns-in_ok-r-in-Ident : goal.check-returns-in_ok-r-in-Ident
check-returns-in_ok-r-in-Ident t c =
    arms.fall_done c.requires.0 c.requires.1 c.field-first.ensures.0 c.infer.ensures
    (falls (c.requires.0.well _ (omega arith)) c.field-first.ensures.0 (rw c.kind_at-kind.ensures at c.in-Ident.is))
    c.in_ok-r-in-Ident.was (rw (c.propositions.ensures.0, c.propositions.ensures.1) at c.agree.ensures)

pub check-returns-in-Abort : goal.check-returns-in-Abort
check-returns-in-Abort t c = arms.abort_done c.requires.0 c.requires.1 c.field-first.ensures.0 (sym c.kind_at-kind.ensures ∙ c.in-Abort.is) (rw c.bottom.ensures at c.check-in-Abort.ensures)

pub check-returns-in-Sorry : goal.check-returns-in-Sorry
check-returns-in-Sorry t c = arms.sorry_done c.requires.0 c.requires.1 c.field-first.ensures.0 (sym c.kind_at-kind.ensures ∙ c.in-Sorry.is)

pub check-returns-in-LetIn : goal.check-returns-in-LetIn
check-returns-in-LetIn t c = arms.let_done c.requires.0 c.requires.1 c.field-first.ensures.0 (sym c.kind_at-kind.ensures ∙ c.in-LetIn.is)

-- A function.
pub check_function-returns-in_err-side : goal.check_function-returns-in_err-side
check_function-returns-in_err-side t c =
    rw (passed_on c.from_residual.ensures)
    (arms.function_stop c.requires.ready.0 c.requires.ready.1 c.field-first.ensures.0 c.requires.kind c.in_err-side.ensures)

pub check_function-bind-hidden-requires : goal.check_function-bind-hidden-requires
check_function-bind-hidden-requires t c =
    let e = c.requires.kind in
    (rw c.field-name.ensures.0 (arms.function_name c.requires.ready.0 c.requires.ready.1 c.field-first.ensures.0 e), (arms.function_left c.requires.ready.0 c.requires.ready.1 c.field-first.ensures.0 e c.in_ok-side.ensures).low)

pub check_function-check-r-requires : goal.check_function-check-r-requires
check_function-check-r-requires t c =
    let e = c.requires.kind in
    let call = arms.function_call c.requires.ready.0 c.requires.ready.1 c.field-first.ensures.0 e c.in_ok-side.ensures c.field-name.ensures.0 c.bind-hidden.ensures in
    (omega (arith, c.decreases, call.less), (call.ready, arms.function_side c.requires.ready.0 c.requires.ready.1 c.field-first.ensures.0 e c.in_ok-side.ensures))

pub check_function-unbind-requires : goal.check_function-unbind-requires
check_function-unbind-requires t c = rw c.field-name.ensures.0 (arms.function_name c.requires.ready.0 c.requires.ready.1 c.field-first.ensures.0 c.requires.kind)

pub check_function-returns : goal.check_function-returns
check_function-returns t c =
    arms.function_done c.requires.ready.0 c.requires.ready.1 c.field-first.ensures.0 c.requires.kind c.in_ok-side.ensures c.field-name.ensures.0 c.bind-hidden.ensures c.check-r.ensures c.unbind.ensures

-- A pair.
pub check_pair-returns-in_err-side : goal.check_pair-returns-in_err-side
check_pair-returns-in_err-side t c =
    rw (passed_on c.from_residual.ensures)
    (arms.pair_stop c.requires.ready.0 c.requires.ready.1 c.field-first.ensures.0 c.requires.kind c.in_err-side.ensures)

pub check_pair-check-requires : goal.check_pair-check-requires
check_pair-check-requires t c =
    let e = c.requires.kind in
    let call = arms.pair_call c.requires.ready.0 c.requires.ready.1 c.field-first.ensures.0 e c.in_ok-side.ensures in
    (omega (arith, c.decreases, call.less), (call.ready, (arms.pair_halves c.requires.ready.0 c.requires.ready.1 c.field-first.ensures.0 e c.in_ok-side.ensures).left))

pub check_pair-returns-in_err-check : goal.check_pair-returns-in_err-check
check_pair-returns-in_err-check t c =
    rw (passed_on c.from_residual-in_err-check.ensures)
    (arms.pair_fail c.requires.ready.0 c.requires.ready.1 c.field-first.ensures.0 c.requires.kind c.in_ok-side.ensures c.check.ensures c.in_err-check.was)

pub check_pair-after-next-requires : goal.check_pair-after-next-requires
check_pair-after-next-requires t c =
    arms.pair_few c.requires.ready.0 c.requires.ready.1 c.field-first.ensures.0 c.requires.kind

pub check_pair-check-requires-2 : goal.check_pair-check-requires-2
check_pair-check-requires-2 t c =
    let e = c.requires.kind in
    let call = arms.pair_next c.requires.ready.0 c.requires.ready.1 c.field-first.ensures.0 e c.in_ok-side.ensures c.check.ensures c.in_ok-check.was
    c.field-second.ensures.0 c.after-next.ensures in
    (omega (arith, c.decreases, call.less), (call.ready, (arms.pair_halves c.requires.ready.0 c.requires.ready.1 c.field-first.ensures.0 e c.in_ok-side.ensures).right))

pub check_pair-returns : goal.check_pair-returns
check_pair-returns t c =
    arms.pair_done c.requires.ready.0 c.requires.ready.1 c.field-first.ensures.0 c.requires.kind c.in_ok-side.ensures c.check.ensures c.in_ok-check.was
    c.field-second.ensures.0 c.after-next.ensures c.check-2.ensures

-- A case.
pub check_case-infer-requires : goal.check_case-infer-requires
check_case-infer-requires t c =
    let call = cases.head_call c.requires.ready.0 c.field-first.ensures.0 c.requires.kind in
    (omega (arith, c.decreases, call.less), call.ready)

pub check_case-returns-in_err-inferred : goal.check_case-returns-in_err-inferred
check_case-returns-in_err-inferred t c =
    rw (passed_on c.from_residual.ensures)
    (arms.case_uninferred c.requires.ready.0 c.requires.ready.1 c.field-first.ensures.0 c.requires.kind c.infer.ensures c.in_err-inferred.was)

pub check_case-with_connective-requires : goal.check_case-with_connective-requires
check_case-with_connective-requires t c =
    rw (c.propositions.ensures.0, c.propositions.ensures.1)
    (cases.head_space c.requires.ready.0 c.field-first.ensures.0 c.requires.kind c.infer.ensures _ c.in_ok-inferred.was)

pub check_case-returns-in_err-h : goal.check_case-returns-in_err-h
check_case-returns-in_err-h t c =
    rw (passed_on c.from_residual-in_err-h.ensures)
    (arms.case_stop c.requires.ready.0 c.requires.ready.1 c.field-first.ensures.0 c.requires.kind c.infer.ensures c.in_ok-inferred.was (expected_here c.propositions.ensures c.with_connective.ensures) c.in_err-h.was)

pub check_case-after-next-requires : goal.check_case-after-next-requires
check_case-after-next-requires t c =
    cases.head_few c.requires.ready.0 c.field-first.ensures.0 c.requires.kind

pub check_case-bind-hidden-requires : goal.check_case-bind-hidden-requires
check_case-bind-hidden-requires t c =
    let e = c.requires.kind in (
      rw c.field-name.ensures.0 (cases.left_name c.requires.ready.0 c.field-first.ensures.0 e),
      (cases.left_stood c.requires.ready.0 c.field-first.ensures.0 c.requires.kind c.infer.ensures c.in_ok-inferred.was
          (expected_here c.propositions.ensures c.with_connective.ensures) c.in_ok-h.was).low,
    )

pub check_case-check-r-requires : goal.check_case-check-r-requires
check_case-check-r-requires t c =
    let call = cases.left_call c.requires.ready.0 c.field-first.ensures.0 c.requires.kind c.infer.ensures c.in_ok-inferred.was (expected_here c.propositions.ensures c.with_connective.ensures) c.in_ok-h.was
    c.field-second.ensures.0 c.after-next.ensures c.field-name.ensures.0 c.bind-hidden.ensures in
    (omega (arith, c.decreases, call.less), (call.ready, c.requires.ready.1))

pub check_case-unbind-requires : goal.check_case-unbind-requires
check_case-unbind-requires t c = rw c.field-name.ensures.0 (cases.left_name c.requires.ready.0 c.field-first.ensures.0 c.requires.kind)

pub check_case-returns-in_err-r : goal.check_case-returns-in_err-r
check_case-returns-in_err-r t c =
    rw (passed_on c.from_residual-in_err-r.ensures)
    (arms.case_fail c.requires.ready.0 c.requires.ready.1 c.field-first.ensures.0 c.requires.kind c.infer.ensures c.in_ok-inferred.was (expected_here c.propositions.ensures c.with_connective.ensures) c.in_ok-h.was
    c.field-second.ensures.0 c.after-next.ensures c.field-name.ensures.0 c.bind-hidden.ensures c.check-r.ensures c.unbind.ensures c.in_err-r.was)

pub check_case-after-last-requires : goal.check_case-after-last-requires
check_case-after-last-requires t c =
    cases.left_few c.requires.ready.0 c.field-first.ensures.0 c.requires.kind c.infer.ensures c.in_ok-inferred.was (expected_here c.propositions.ensures c.with_connective.ensures) c.in_ok-h.was
    c.field-second.ensures.0 c.after-next.ensures

pub check_case-known_end-side-requires : goal.check_case-known_end-side-requires
check_case-known_end-side-requires t c =
    (cases.left_stood c.requires.ready.0 c.field-first.ensures.0 c.requires.kind c.infer.ensures c.in_ok-inferred.was (expected_here c.propositions.ensures c.with_connective.ensures) c.in_ok-h.was).there

pub check_case-bind-hidden-requires-2 : goal.check_case-bind-hidden-requires-2
check_case-bind-hidden-requires-2 t c =
    let e = c.requires.kind in
    let l = c.in_ok-h.was in (
      rw c.field-name-2.ensures.0 (cases.right_name c.requires.ready.0 c.field-first.ensures.0 e),
      (cases.sides c.requires.ready.0 c.field-first.ensures.0 e c.infer.ensures c.in_ok-inferred.was
          (expected_here c.propositions.ensures c.with_connective.ensures) l c.known_end-side.ensures).right.low,
    )

pub check_case-check-r-requires-2 : goal.check_case-check-r-requires-2
check_case-check-r-requires-2 t c =
    let call = cases.right_call c.requires.ready.0 c.field-first.ensures.0 c.requires.kind c.infer.ensures c.in_ok-inferred.was (expected_here c.propositions.ensures c.with_connective.ensures) c.in_ok-h.was
    c.field-second.ensures.0 c.after-next.ensures c.field-name.ensures.0 c.bind-hidden.ensures c.check-r.ensures.same c.check-r.ensures.kept c.unbind.ensures
    c.field-third.ensures.0 c.after-last.ensures c.known_end-side.ensures c.field-name-2.ensures.0 c.bind-hidden-2.ensures in
    (omega (arith, c.decreases, call.less), (call.ready, c.requires.ready.1))

pub check_case-unbind-requires-2 : goal.check_case-unbind-requires-2
check_case-unbind-requires-2 t c = rw c.field-name-2.ensures.0 (cases.right_name c.requires.ready.0 c.field-first.ensures.0 c.requires.kind)

pub check_case-overflow_add-h : goal.check_case-overflow_add-h
check_case-overflow_add-h t c =
    omega (arith, stood_low (cases.left_stood c.requires.ready.0 c.field-first.ensures.0 c.requires.kind c.infer.ensures c.in_ok-inferred.was (expected_here c.propositions.ensures c.with_connective.ensures) c.in_ok-h.was))

pub check_case-overflow_add-h-2 : goal.check_case-overflow_add-h-2
check_case-overflow_add-h-2 t c =
    omega (arith, stood_low (cases.left_stood c.requires.ready.0 c.field-first.ensures.0 c.requires.kind c.infer.ensures c.in_ok-inferred.was (expected_here c.propositions.ensures c.with_connective.ensures) c.in_ok-h.was))

pub check_case-returns : goal.check_case-returns
check_case-returns t c =
    arms.case_done c.requires.ready.0 c.requires.ready.1 c.field-first.ensures.0 c.requires.kind c.infer.ensures c.in_ok-inferred.was (expected_here c.propositions.ensures c.with_connective.ensures) c.in_ok-h.was
    c.field-second.ensures.0 c.after-next.ensures c.field-name.ensures.0 c.bind-hidden.ensures c.check-r.ensures c.unbind.ensures c.in_ok-r.was
    c.field-third.ensures.0 c.after-last.ensures c.known_end-side.ensures c.field-name-2.ensures.0 c.bind-hidden-2.ensures c.check-r-2.ensures c.unbind-2.ensures

-- What is inferred.
pub infer-entry-requires : goal.infer-entry-requires
infer-entry-requires t c =
    inferring.ident_name c.requires c.field-first.ensures.0 (sym c.kind_at-kind.ensures ∙ c.in-Ident.is)

pub infer-returns-in-Ident : goal.infer-returns-in-Ident
infer-returns-in-Ident t c =
    inferring.ident_done c.requires c.field-first.ensures.0 (sym c.kind_at-kind.ensures ∙ c.in-Ident.is) c.entry.ensures

pub infer-infer-requires : goal.infer-infer-requires
infer-infer-requires t c =
    let call = inferring.fst_call c.requires c.field-first.ensures.0 (sym c.kind_at-kind.ensures ∙ c.in-ProjectFst.is) in
    (omega (arith, c.decreases, call.less), call.ready)

pub infer-returns-in_err-r-in-ProjectFst : goal.infer-returns-in_err-r-in-ProjectFst
infer-returns-in_err-r-in-ProjectFst t c =
    rw (passed_on c.from_residual.ensures)
    (inferring.fst_stop c.requires c.field-first.ensures.0 c.infer.ensures (sym c.kind_at-kind.ensures ∙ c.in-ProjectFst.is) c.in_err-r-in-ProjectFst.was)

pub infer-first_side-requires : goal.infer-first_side-requires
infer-first_side-requires t c =
    rw (c.propositions.ensures.0, c.propositions.ensures.1)
    (inferring.fst_space c.requires c.field-first.ensures.0 c.infer.ensures (sym c.kind_at-kind.ensures ∙ c.in-ProjectFst.is) _ c.in_ok-r-in-ProjectFst.was)

pub infer-returns-in_ok-r-in-ProjectFst : goal.infer-returns-in_ok-r-in-ProjectFst
infer-returns-in_ok-r-in-ProjectFst t c =
    inferring.fst_done c.requires c.field-first.ensures.0 c.infer.ensures c.in_ok-r-in-ProjectFst.was (sym c.kind_at-kind.ensures ∙ c.in-ProjectFst.is)
    (rw (c.propositions.ensures.0, c.propositions.ensures.1) at c.first_side.ensures)

pub infer-infer-requires-in-ProjectSnd : goal.infer-infer-requires-in-ProjectSnd
infer-infer-requires-in-ProjectSnd t c =
    let call = inferring.snd_call c.requires c.field-first.ensures.0 (sym c.kind_at-kind.ensures ∙ c.in-ProjectSnd.is) in
    (omega (arith, c.decreases, call.less), call.ready)

pub infer-returns-in_err-r-in-ProjectSnd : goal.infer-returns-in_err-r-in-ProjectSnd
infer-returns-in_err-r-in-ProjectSnd t c =
    rw (passed_on c.from_residual-in_err-r-in-ProjectSnd.ensures)
    (inferring.snd_stop c.requires c.field-first.ensures.0 c.infer-in-ProjectSnd.ensures (sym c.kind_at-kind.ensures ∙ c.in-ProjectSnd.is) c.in_err-r-in-ProjectSnd.was)

pub infer-second_side-requires : goal.infer-second_side-requires
infer-second_side-requires t c =
    rw (c.propositions-in-ProjectSnd.ensures.0, c.propositions-in-ProjectSnd.ensures.1)
    (inferring.snd_space c.requires c.field-first.ensures.0 c.infer-in-ProjectSnd.ensures (sym c.kind_at-kind.ensures ∙ c.in-ProjectSnd.is) _ c.in_ok-r-in-ProjectSnd.was)

pub infer-returns-in_ok-r-in-ProjectSnd : goal.infer-returns-in_ok-r-in-ProjectSnd
infer-returns-in_ok-r-in-ProjectSnd t c =
    inferring.snd_done c.requires c.field-first.ensures.0 c.infer-in-ProjectSnd.ensures c.in_ok-r-in-ProjectSnd.was (sym c.kind_at-kind.ensures ∙ c.in-ProjectSnd.is)
    (rw (c.propositions-in-ProjectSnd.ensures.0, c.propositions-in-ProjectSnd.ensures.1) at c.second_side.ensures)

pub infer-returns-in_err-label-in-TypeAscription : goal.infer-returns-in_err-label-in-TypeAscription
infer-returns-in_err-label-in-TypeAscription t c =
    rw (passed_on c.from_residual-in_err-label-in-TypeAscription.ensures)
    (inferring.ascription_stop c.requires c.field-first.ensures.0 (sym c.kind_at-kind.ensures ∙ c.in-TypeAscription.is) (rw c.label_at.ensures at c.label_place.ensures) c.in_err-label-in-TypeAscription.was)

pub infer-check-requires : goal.infer-check-requires
infer-check-requires t c =
    let e = (sym c.kind_at-kind.ensures ∙ c.in-TypeAscription.is) in
    let call = inferring.ascription_call c.requires c.field-first.ensures.0 e in
    (omega (arith, c.decreases, call.less), (call.ready, inferring.ascription_stood c.requires c.field-first.ensures.0 e (rw c.label_at.ensures at c.label_place.ensures) c.in_ok-label-in-TypeAscription.was))

pub infer-returns-in_err-check-in-TypeAscription : goal.infer-returns-in_err-check-in-TypeAscription
infer-returns-in_err-check-in-TypeAscription t c =
    rw (passed_on c.from_residual-in_err-check-in-TypeAscription.ensures)
    (inferring.ascription_fail c.requires c.field-first.ensures.0 (sym c.kind_at-kind.ensures ∙ c.in-TypeAscription.is) (rw c.label_at.ensures at c.label_place.ensures) c.in_ok-label-in-TypeAscription.was c.check.ensures c.in_err-check-in-TypeAscription.was)

pub infer-returns-in_ok-check-in-TypeAscription : goal.infer-returns-in_ok-check-in-TypeAscription
infer-returns-in_ok-check-in-TypeAscription t c =
    inferring.ascription_pass c.requires c.field-first.ensures.0 (sym c.kind_at-kind.ensures ∙ c.in-TypeAscription.is) (rw c.label_at.ensures at c.label_place.ensures) c.in_ok-label-in-TypeAscription.was c.check.ensures c.in_ok-check-in-TypeAscription.was

pub infer-returns-in-Unit : goal.infer-returns-in-Unit
infer-returns-in-Unit t c = rw c.top.ensures (inferring.unit_done c.requires c.field-first.ensures.0 (sym c.kind_at-kind.ensures ∙ c.in-Unit.is))

pub infer-returns-in-LetIn : goal.infer-returns-in-LetIn
infer-returns-in-LetIn t c = inferring.no_rule c.requires c.field-first.ensures.0 (rw c.kind_at-kind.ensures at c.in-LetIn.is)

-- An application.
pub infer_application-infer-requires : goal.infer_application-infer-requires
infer_application-infer-requires t c =
    let call = inferring.application_call c.requires.ready c.field-first.ensures.0 c.requires.kind in
    (omega (arith, c.decreases, call.less), call.ready)

pub infer_application-returns-in_err-inferred : goal.infer_application-returns-in_err-inferred
infer_application-returns-in_err-inferred t c =
    rw (passed_on c.from_residual.ensures)
    (inferring.application_uninferred c.requires.ready c.field-first.ensures.0 c.requires.kind c.infer.ensures c.in_err-inferred.was)

pub infer_application-with_connective-requires : goal.infer_application-with_connective-requires
infer_application-with_connective-requires t c =
    rw (c.propositions-propositions.ensures.0, c.propositions-propositions.ensures.1)
    (inferring.application_space c.requires.ready c.field-first.ensures.0 c.requires.kind c.infer.ensures _ c.in_ok-inferred.was)

pub infer_application-returns-in_err-p : goal.infer_application-returns-in_err-p
infer_application-returns-in_err-p t c =
    rw (passed_on c.from_residual-in_err-p.ensures)
    (inferring.application_stop c.requires.ready c.field-first.ensures.0 c.requires.kind c.infer.ensures c.in_ok-inferred.was (expected_here c.propositions-propositions.ensures c.with_connective.ensures) c.in_err-p.was)

pub infer_application-after-next-requires : goal.infer_application-after-next-requires
infer_application-after-next-requires t c =
    inferring.application_few c.requires.ready c.field-first.ensures.0 c.requires.kind

pub infer_application-left-argument-requires : goal.infer_application-left-argument-requires
infer_application-left-argument-requires t c =
    (inferring.application_found c.requires.ready c.field-first.ensures.0 c.requires.kind c.infer.ensures c.in_ok-inferred.was (expected_here c.propositions-propositions.ensures c.with_connective.ensures) c.in_ok-p.was).low

pub infer_application-right-side-requires : goal.infer_application-right-side-requires
infer_application-right-side-requires t c =
    rw (c.propositions-propositions.ensures.0, c.propositions-propositions.ensures.1)
    (inferring.application_found c.requires.ready c.field-first.ensures.0 c.requires.kind c.infer.ensures c.in_ok-inferred.was (expected_here c.propositions-propositions.ensures c.with_connective.ensures) c.in_ok-p.was)

pub infer_application-check-requires : goal.infer_application-check-requires
infer_application-check-requires t c =
    let found = expected_here c.propositions-propositions.ensures c.with_connective.ensures in
    let argument = rw c.propositions-propositions.ensures.1 at c.left-argument.ensures in
    let side = rw (c.propositions-propositions.ensures.0, c.propositions-propositions.ensures.1) at c.right-side.ensures in
    let call = inferring.application_next c.requires.ready c.field-first.ensures.0 c.requires.kind c.infer.ensures c.in_ok-inferred.was found c.in_ok-p.was argument side
    c.field-second.ensures.0 c.after-next.ensures in
    (omega (arith, c.decreases, call.less), (call.ready, inferring.application_argument c.requires.ready c.field-first.ensures.0 c.requires.kind c.infer.ensures c.in_ok-inferred.was found c.in_ok-p.was argument side))

pub infer_application-returns-in_err-check : goal.infer_application-returns-in_err-check
infer_application-returns-in_err-check t c =
    let found = expected_here c.propositions-propositions.ensures c.with_connective.ensures in
    let argument = rw c.propositions-propositions.ensures.1 at c.left-argument.ensures in
    let side = rw (c.propositions-propositions.ensures.0, c.propositions-propositions.ensures.1) at c.right-side.ensures in
    rw (passed_on c.from_residual-in_err-check.ensures)
    (inferring.application_fail c.requires.ready c.field-first.ensures.0 c.requires.kind c.infer.ensures c.in_ok-inferred.was found c.in_ok-p.was argument side
    c.field-second.ensures.0 c.after-next.ensures c.check.ensures c.in_err-check.was)

pub infer_application-returns : goal.infer_application-returns
infer_application-returns t c =
    let found = expected_here c.propositions-propositions.ensures c.with_connective.ensures in
    let argument = rw c.propositions-propositions.ensures.1 at c.left-argument.ensures in
    let side = rw (c.propositions-propositions.ensures.0, c.propositions-propositions.ensures.1) at c.right-side.ensures in
    inferring.application_pass c.requires.ready c.field-first.ensures.0 c.requires.kind c.infer.ensures c.in_ok-inferred.was found c.in_ok-p.was argument side
    c.field-second.ensures.0 c.after-next.ensures c.check.ensures c.in_ok-check.was

-- A function.
pub infer_function-returns-in_err-label : goal.infer_function-returns-in_err-label
infer_function-returns-in_err-label t c =
    rw (passed_on c.from_residual.ensures)
    (inferring.function_stop c.requires.ready c.field-first.ensures.0 c.requires.kind (rw c.parameter_at.ensures at c.label_place.ensures) c.in_err-label.was)

pub infer_function-bind-hidden-requires : goal.infer_function-bind-hidden-requires
infer_function-bind-hidden-requires t c =
    let e = c.requires.kind in
    (rw c.field-name.ensures.0 (inferring.function_name c.requires.ready c.field-first.ensures.0 e), (inferring.function_stood c.requires.ready c.field-first.ensures.0 e (rw c.parameter_at.ensures at c.label_place.ensures) c.in_ok-label.was).low)

pub infer_function-infer-r-requires : goal.infer_function-infer-r-requires
infer_function-infer-r-requires t c =
    let call = inferring.function_call c.requires.ready c.field-first.ensures.0 c.requires.kind (rw c.parameter_at.ensures at c.label_place.ensures) c.in_ok-label.was c.field-name.ensures.0 c.bind-hidden.ensures in
    (omega (arith, c.decreases, call.less), call.ready)

pub infer_function-unbind-requires : goal.infer_function-unbind-requires
infer_function-unbind-requires t c = rw c.field-name.ensures.0 (inferring.function_name c.requires.ready c.field-first.ensures.0 c.requires.kind)

pub infer_function-returns-in_err-r : goal.infer_function-returns-in_err-r
infer_function-returns-in_err-r t c =
    rw (passed_on c.from_residual-in_err-r.ensures)
    (inferring.function_body_stop c.requires.ready c.field-first.ensures.0 c.requires.kind (rw c.parameter_at.ensures at c.label_place.ensures) c.in_ok-label.was c.field-name.ensures.0 c.bind-hidden.ensures c.infer-r.ensures c.unbind.ensures c.in_err-r.was)

pub infer_function-make-requires : goal.infer_function-make-requires
infer_function-make-requires t c = (
  node_low c.requires.ready,
  stood_low (inferring.function_stood c.requires.ready c.field-first.ensures.0 c.requires.kind (rw c.parameter_at.ensures at c.label_place.ensures) c.in_ok-label.was),
  (derives c.infer-r.ensures.answer c.in_ok-r.was).low,
)

pub infer_function-returns : goal.infer_function-returns
infer_function-returns t c =
    inferring.function_done c.requires.ready c.field-first.ensures.0 c.requires.kind (rw c.parameter_at.ensures at c.label_place.ensures) c.in_ok-label.was c.field-name.ensures.0 c.bind-hidden.ensures c.infer-r.ensures c.unbind.ensures c.in_ok-r.was
    c.make.ensures.number c.make.ensures.slot

-- A pair.
pub infer_pair-infer-requires : goal.infer_pair-infer-requires
infer_pair-infer-requires t c =
    let call = inferring.pair_call c.requires.ready c.field-first.ensures.0 c.requires.kind in
    (omega (arith, c.decreases, call.less), call.ready)

pub infer_pair-returns-in_err-p : goal.infer_pair-returns-in_err-p
infer_pair-returns-in_err-p t c =
    rw (passed_on c.from_residual.ensures)
    (inferring.pair_stop c.requires.ready c.field-first.ensures.0 c.requires.kind c.infer.ensures c.in_err-p.was)

pub infer_pair-after-next-requires : goal.infer_pair-after-next-requires
infer_pair-after-next-requires t c =
    inferring.pair_few c.requires.ready c.field-first.ensures.0 c.requires.kind

pub infer_pair-infer-requires-2 : goal.infer_pair-infer-requires-2
infer_pair-infer-requires-2 t c =
    let call = inferring.pair_next c.requires.ready c.field-first.ensures.0 c.requires.kind c.infer.ensures c.in_ok-p.was c.field-second.ensures.0 c.after-next.ensures in
    (omega (arith, c.decreases, call.less), call.ready)

pub infer_pair-returns-in_err-q : goal.infer_pair-returns-in_err-q
infer_pair-returns-in_err-q t c =
    rw (passed_on c.from_residual-in_err-q.ensures)
    (inferring.pair_second_stop c.requires.ready c.field-first.ensures.0 c.requires.kind c.infer.ensures c.in_ok-p.was c.field-second.ensures.0 c.after-next.ensures c.infer-2.ensures c.in_err-q.was)

pub infer_pair-make-requires : goal.infer_pair-make-requires
infer_pair-make-requires t c =
    (node_low c.requires.ready, (derives c.infer.ensures.answer c.in_ok-p.was).low, (derives c.infer-2.ensures.answer c.in_ok-q.was).low)

pub infer_pair-returns : goal.infer_pair-returns
infer_pair-returns t c =
    inferring.pair_done c.requires.ready c.field-first.ensures.0 c.requires.kind c.infer.ensures c.in_ok-p.was c.field-second.ensures.0 c.after-next.ensures c.infer-2.ensures c.in_ok-q.was
    c.make.ensures.number c.make.ensures.slot

-- A case.
pub infer_case-infer-requires : goal.infer_case-infer-requires
infer_case-infer-requires t c =
    let call = cases.head_call c.requires.ready c.field-first.ensures.0 c.requires.kind in
    (omega (arith, c.decreases, call.less), call.ready)

pub infer_case-returns-in_err-inferred : goal.infer_case-returns-in_err-inferred
infer_case-returns-in_err-inferred t c =
    rw (passed_on c.from_residual.ensures)
    (inferring.case_uninferred c.requires.ready c.field-first.ensures.0 c.requires.kind c.infer.ensures c.in_err-inferred.was)

pub infer_case-with_connective-requires : goal.infer_case-with_connective-requires
infer_case-with_connective-requires t c =
    rw (c.propositions.ensures.0, c.propositions.ensures.1)
    (cases.head_space c.requires.ready c.field-first.ensures.0 c.requires.kind c.infer.ensures _ c.in_ok-inferred.was)

pub infer_case-returns-in_err-h : goal.infer_case-returns-in_err-h
infer_case-returns-in_err-h t c =
    rw (passed_on c.from_residual-in_err-h.ensures)
    (inferring.case_stop c.requires.ready c.field-first.ensures.0 c.requires.kind c.infer.ensures c.in_ok-inferred.was (expected_here c.propositions.ensures c.with_connective.ensures) c.in_err-h.was)

pub infer_case-after-next-requires : goal.infer_case-after-next-requires
infer_case-after-next-requires t c =
    cases.head_few c.requires.ready c.field-first.ensures.0 c.requires.kind

pub infer_case-bind-hidden-requires : goal.infer_case-bind-hidden-requires
infer_case-bind-hidden-requires t c = (
  rw c.field-name.ensures.0 (cases.left_name c.requires.ready c.field-first.ensures.0 c.requires.kind),
  (cases.left_stood c.requires.ready c.field-first.ensures.0 c.requires.kind c.infer.ensures c.in_ok-inferred.was
      (expected_here c.propositions.ensures c.with_connective.ensures) c.in_ok-h.was).low,
)

pub infer_case-infer-q-requires : goal.infer_case-infer-q-requires
infer_case-infer-q-requires t c =
    let call = cases.left_call c.requires.ready c.field-first.ensures.0 c.requires.kind c.infer.ensures c.in_ok-inferred.was (expected_here c.propositions.ensures c.with_connective.ensures) c.in_ok-h.was
    c.field-second.ensures.0 c.after-next.ensures c.field-name.ensures.0 c.bind-hidden.ensures in
    (omega (arith, c.decreases, call.less), call.ready)

pub infer_case-unbind-requires : goal.infer_case-unbind-requires
infer_case-unbind-requires t c = rw c.field-name.ensures.0 (cases.left_name c.requires.ready c.field-first.ensures.0 c.requires.kind)

pub infer_case-returns-in_err-q : goal.infer_case-returns-in_err-q
infer_case-returns-in_err-q t c =
    rw (passed_on c.from_residual-in_err-q.ensures)
    (inferring.case_left_stop c.requires.ready c.field-first.ensures.0 c.requires.kind c.infer.ensures c.in_ok-inferred.was (expected_here c.propositions.ensures c.with_connective.ensures) c.in_ok-h.was
    c.field-second.ensures.0 c.after-next.ensures c.field-name.ensures.0 c.bind-hidden.ensures c.infer-q.ensures c.unbind.ensures c.in_err-q.was)

pub infer_case-after-last-requires : goal.infer_case-after-last-requires
infer_case-after-last-requires t c =
    cases.left_few c.requires.ready c.field-first.ensures.0 c.requires.kind c.infer.ensures c.in_ok-inferred.was (expected_here c.propositions.ensures c.with_connective.ensures) c.in_ok-h.was
    c.field-second.ensures.0 c.after-next.ensures

pub infer_case-known_end-side-requires : goal.infer_case-known_end-side-requires
infer_case-known_end-side-requires t c =
    (cases.left_stood c.requires.ready c.field-first.ensures.0 c.requires.kind c.infer.ensures c.in_ok-inferred.was (expected_here c.propositions.ensures c.with_connective.ensures) c.in_ok-h.was).there

pub infer_case-bind-hidden-requires-2 : goal.infer_case-bind-hidden-requires-2
infer_case-bind-hidden-requires-2 t c =
    let l = c.in_ok-h.was in (
      rw c.field-name-2.ensures.0 (cases.right_name c.requires.ready c.field-first.ensures.0 c.requires.kind),
      (cases.sides c.requires.ready c.field-first.ensures.0 c.requires.kind c.infer.ensures c.in_ok-inferred.was
          (expected_here c.propositions.ensures c.with_connective.ensures) l c.known_end-side.ensures).right.low,
    )

pub infer_case-infer-r-requires : goal.infer_case-infer-r-requires
infer_case-infer-r-requires t c =
    let call = cases.right_call c.requires.ready c.field-first.ensures.0 c.requires.kind c.infer.ensures c.in_ok-inferred.was (expected_here c.propositions.ensures c.with_connective.ensures) c.in_ok-h.was
    c.field-second.ensures.0 c.after-next.ensures c.field-name.ensures.0 c.bind-hidden.ensures c.infer-q.ensures.same c.infer-q.ensures.kept c.unbind.ensures
    c.field-third.ensures.0 c.after-last.ensures c.known_end-side.ensures c.field-name-2.ensures.0 c.bind-hidden-2.ensures in
    (omega (arith, c.decreases, call.less), call.ready)

pub infer_case-unbind-requires-2 : goal.infer_case-unbind-requires-2
infer_case-unbind-requires-2 t c = rw c.field-name-2.ensures.0 (cases.right_name c.requires.ready c.field-first.ensures.0 c.requires.kind)

pub infer_case-returns-in_err-r : goal.infer_case-returns-in_err-r
infer_case-returns-in_err-r t c =
    rw (passed_on c.from_residual-in_err-r.ensures)
    (inferring.case_right_stop c.requires.ready c.field-first.ensures.0 c.requires.kind c.infer.ensures c.in_ok-inferred.was (expected_here c.propositions.ensures c.with_connective.ensures) c.in_ok-h.was
    c.field-second.ensures.0 c.after-next.ensures c.field-name.ensures.0 c.bind-hidden.ensures c.infer-q.ensures c.unbind.ensures c.in_ok-q.was
    c.field-third.ensures.0 c.after-last.ensures c.known_end-side.ensures c.field-name-2.ensures.0 c.bind-hidden-2.ensures c.infer-r.ensures c.unbind-2.ensures c.in_err-r.was)

pub infer_case-agree-requires : goal.infer_case-agree-requires
infer_case-agree-requires t c =
    rw (c.propositions-2.ensures.0, c.propositions-2.ensures.1)
    (let slots = c.infer-r.ensures.kept.long ∙ c.infer-q.ensures.kept.long ∙ c.infer.ensures.kept.long ∙ c.requires.ready.slots in record {
      code_len_bound = (c.requires.ready.ends.space, slots);
      known = (
        inferring.case_right_known c.requires.ready c.field-first.ensures.0 c.requires.kind c.infer.ensures c.in_ok-inferred.was (expected_here c.propositions.ensures c.with_connective.ensures) c.in_ok-h.was
            c.field-second.ensures.0 c.after-next.ensures c.field-name.ensures.0 c.bind-hidden.ensures c.infer-q.ensures c.unbind.ensures c.in_ok-q.was
            c.field-third.ensures.0 c.after-last.ensures c.known_end-side.ensures c.field-name-2.ensures.0 c.bind-hidden-2.ensures c.infer-r.ensures c.unbind-2.ensures
            _ c.in_ok-r.was,
        inferring.case_left_known c.requires.ready c.field-first.ensures.0 c.requires.kind c.infer.ensures c.in_ok-inferred.was (expected_here c.propositions.ensures c.with_connective.ensures) c.in_ok-h.was
            c.field-second.ensures.0 c.after-next.ensures c.field-name.ensures.0 c.bind-hidden.ensures c.infer-q.ensures c.unbind.ensures c.in_ok-q.was
            c.field-third.ensures.0 c.after-last.ensures c.known_end-side.ensures c.field-name-2.ensures.0 c.bind-hidden-2.ensures c.infer-r.ensures c.unbind-2.ensures,
      );
    })

pub infer_case-returns-in_err-agree : goal.infer_case-returns-in_err-agree
infer_case-returns-in_err-agree t c =
    rw (passed_on c.from_residual-in_err-agree.ensures)
    (inferring.case_fail c.requires.ready c.field-first.ensures.0 c.requires.kind c.infer.ensures c.in_ok-inferred.was (expected_here c.propositions.ensures c.with_connective.ensures) c.in_ok-h.was
    c.field-second.ensures.0 c.after-next.ensures c.field-name.ensures.0 c.bind-hidden.ensures c.infer-q.ensures c.unbind.ensures c.in_ok-q.was
    c.field-third.ensures.0 c.after-last.ensures c.known_end-side.ensures c.field-name-2.ensures.0 c.bind-hidden-2.ensures c.infer-r.ensures c.unbind-2.ensures
    c.in_ok-r.was (rw (c.propositions-2.ensures.0, c.propositions-2.ensures.1) at c.agree.ensures) c.in_err-agree.was)

pub infer_case-overflow_add-h : goal.infer_case-overflow_add-h
infer_case-overflow_add-h t c =
    omega (arith, stood_low (cases.left_stood c.requires.ready c.field-first.ensures.0 c.requires.kind c.infer.ensures c.in_ok-inferred.was (expected_here c.propositions.ensures c.with_connective.ensures) c.in_ok-h.was))

pub infer_case-overflow_add-h-2 : goal.infer_case-overflow_add-h-2
infer_case-overflow_add-h-2 t c =
    omega (arith, stood_low (cases.left_stood c.requires.ready c.field-first.ensures.0 c.requires.kind c.infer.ensures c.in_ok-inferred.was (expected_here c.propositions.ensures c.with_connective.ensures) c.in_ok-h.was))

pub infer_case-returns : goal.infer_case-returns
infer_case-returns t c =
    inferring.case_pass c.requires.ready c.field-first.ensures.0 c.requires.kind c.infer.ensures c.in_ok-inferred.was (expected_here c.propositions.ensures c.with_connective.ensures) c.in_ok-h.was
    c.field-second.ensures.0 c.after-next.ensures c.field-name.ensures.0 c.bind-hidden.ensures c.infer-q.ensures c.unbind.ensures c.in_ok-q.was
    c.field-third.ensures.0 c.after-last.ensures c.known_end-side.ensures c.field-name-2.ensures.0 c.bind-hidden-2.ensures c.infer-r.ensures c.unbind-2.ensures
    c.in_ok-r.was (rw (c.propositions-2.ensures.0, c.propositions-2.ensures.1) at c.agree.ensures) c.in_ok-agree.was
