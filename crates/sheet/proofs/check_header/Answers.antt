-- The three refusals come in their order.
use mathlib.Core.Path.{◌≡◌, refl, sym, ap, ◌∙◌}
use mathlib.Core.Bool.{not}
use borrow.Author.Rules.{rules}
use borrow.Author.Tests.{eq-eqb, ne_eqb}
use Rattle.definitions.specs.Outcome.{accepted}
use Rattle.definitions.specs.Sheet.{header_out_of_range, name_pairs_start, proposition_pairs_start, steps_start, text_start, code_start, sheet_length}
use Rattle.definitions.specs.Admission.{header_checks}
use Rattle.sheet.specs.declared.header.Layout.{Layout}
use Rattle.sheet.specs.Header.{header_of, layout_of}
use Rattle.sheet.specs.Checks.{short_check}
use Rattle.definitions.proofs.Ranges.{in_range}
use Rattle.sheet.proofs.Stages.{refused_if, not_refused_if, stops, passes, answer_refused, answer_accepted, stage_accepted, stage_refused}
use Rattle.sheet.proofs.check_header.Goals as goal
use Rattle.sheet.proofs.check_header.Goals.{After-layout, After-out_of_range, In_ok-h}

is_header : (c : In_ok-h) → c.in_ok-h.h ≡ header_of c.args.s.now
is_header c = (stage_accepted _ _ c.in_ok-h.ensures refl).0

-- 1 did not come
long_enough : (c : In_ok-h) → accepted tt ≡ short_check c.args.s.now
long_enough c = sym (stage_accepted _ _ c.in_ok-h.ensures refl).2

range_test : (c : After-out_of_range) → header_out_of_range c.args.s.now ≡ c.out_of_range.result
range_test c = sym (c.out_of_range.ensures _ (is_header (goal.at.After-out_of_range c).In_ok-h))

laid_out : (c : After-layout) → c.layout.result.end ≡ sheet_length c.args.s.now
unfolding layout_of header_of name_pairs_start proposition_pairs_start steps_start text_start code_start sheet_length
laid_out c = ap (λ (l : Layout). l.end) (c.layout.ensures ∙ ap layout_of (is_header (goal.at.After-layout c).In_ok-h))

pub returns-in_err-h : goal.returns-in_err-h
unfolding header_checks short_check
returns-in_err-h c =
    let same : c.from_residual.result ≡ c.header.result = search rules in
    rw same (stage_refused _ _ _ c.header.ensures (c.header.ensures ∙ sym c.in_err-h.ensures))

pub returns-then-out_of_range : goal.returns-then-out_of_range
unfolding header_checks short_check
returns-then-out_of_range c =
    let at = goal.at.returns-then-out_of_range c in
    answer_refused _ (passes _ (long_enough at.In_ok-h)
    (stops _ (refused_if _ _ (range_test at.After-out_of_range ∙ c.if-out_of_range.true) c.at.ensures)))

pub layout-requires : goal.layout-requires
unfolding header_of
layout-requires c =
    let at = goal.at.layout-requires c in
    rw (is_header at.In_ok-h) (in_range _ (range_test at.After-out_of_range ∙ c.if-out_of_range.false))

pub returns-then-s-layout : goal.returns-then-s-layout
unfolding header_checks short_check
returns-then-s-layout c =
    let at = goal.at.returns-then-s-layout c in
    answer_refused _ (passes _ (long_enough at.In_ok-h)
    (passes _ (not_refused_if _ _ (range_test at.After-out_of_range ∙ c.if-out_of_range.false))
    (refused_if _ _ (ap not (ne_eqb _ _ (λ e. c.if-s-layout.true (e ∙ sym (laid_out at.After-layout))))) c.at-then-s-layout.ensures)))

pub returns : goal.returns
unfolding header_checks short_check
returns c =
    let at = goal.at.returns c in
    answer_accepted _ (is_header at.In_ok-h) (passes _ (long_enough at.In_ok-h)
    (passes _ (not_refused_if _ _ (range_test at.After-out_of_range ∙ c.if-out_of_range.false))
    (not_refused_if _ _ (ap not (eq-eqb _ _ (c.if-s-layout.false ∙ laid_out at.After-layout))))))
