-- A part is an earlier record, and a record's items come before its term: so the number falls, and of one number first the
-- term, then its items, then its parts. The term's text is written by the items of its format, one after the other.
use Prim.Native.Nat.{ℕ, ◌-◌}
use mathlib.Core.Path.{◌≡◌, sym, ap, ◌∙◌}
use native.Mathlib.Omega.{arith}
use Rattle.proof_term.specs.Records.{field_at}
use Rattle.prop.proofs.Shown.{below_as, put_as}
use Rattle.proof_term_display.specs.Format.{part_field, part_number, item_text}
use Rattle.proof_term_display.specs.Printer.{HasTerm}
use Rattle.proof_term_display.specs.Item.{ItemReady}
use Rattle.proof_term_display.proofs.Tables.{part_field_below, at_position, kind_seen}
use Rattle.proof_term_display.proofs.Items.{digit, no_digit, item_name, item_part, item_fixed}
use Rattle.proof_term_display.proofs.Items.{item_of_parameter, item_of_ascription}
use Rattle.proof_term_display.proofs.Labels.{printable_label, printable_parameter, label_shown, parameter_label_shown}
use Rattle.proof_term_display.proofs.Progress.{start, ends_past, item_ready, goes_on}
use Rattle.proof_term_display.proofs.Parts.{unit_text, printable_part}
use Rattle.proof_term_display.proofs.Ascriptions.{not_after, body_held, body_printable, label_printable, part_written}
use Rattle.proof_term_display.proofs.Printer.+put.Goals as goal
use Rattle.proof_term_display.proofs.Printer.+put.Goals.{put_part-After-field-number, put_part-Else-n-number}

-- the part's number, and what it takes to print it
number_is : (g : _) (t : ℕ) → (c : put_part-After-field-number g t) → let s = c.args in
    c.field-number.result ≡ field_at s.self.now.records.now s.n (part_field (part_number s.which))
number_is g t c = c.field-number.ensures.0 ∙ ap (field_at _ _) c.field.ensures

number_printable : (g : _) (t : ℕ) → (c : put_part-Else-n-number g t) → let s = c.args in
    HasTerm s.self.now c.field-number.result
number_printable g t c =
    printable_part (part_number c.args.which) _ (number_is g t (goal.at.put_part-Else-n-number g t c).After-field-number) c.if-n-number.false c.requires.has_term c.requires.has_item

pub put_part-field-number-requires : goal.put_part-field-number-requires
put_part-field-number-requires g t c =
    (c.requires.has_term.held, omega (arith, c.field.ensures, part_field_below (part_number c.args.which)))

pub put_part-returns-then-n-number : goal.put_part-returns-then-n-number
put_part-returns-then-n-number g t c =
    let text = unit_text _ _ _ _ _ _ _ (number_is g t (goal.at.put_part-returns-then-n-number g t c).After-field-number) c.if-n-number.true in
    put_as g.S.Sink.puts text c.put_all.ensures

pub put_part-put-requires : goal.put_part-put-requires
put_part-put-requires g t c =
    let which = c.ascribed_body-ascribed.ensures in
    λ κs lives. (omega (arith, not_after which, c.unwrap_or.ensures, c.if-n-number.false, c.decreases), (lives, rw c.unwrap_or.ensures (body_printable which (number_printable g t (goal.at.put_part-put-requires g t c).Else-n-number))))

pub put_part-put_ascription-requires : goal.put_part-put_ascription-requires
put_part-put_ascription-requires g t c =
    let printable = number_printable g t (goal.at.put_part-put_ascription-requires g t c).Else-n-number in
    record { has_term = printable; has_label = λ is. label_printable c.ascribed_body-ascribed.ensures printable (rw c.is_some.ensures at is) }

pub put_part-returns : goal.put_part-returns
put_part-returns g t c =
    part_written _ _ _ _ _ _ _ (number_is g t (goal.at.put_part-returns g t c).After-field-number) c.if-n-number.false c.ascribed_body-ascribed.ensures
    g.met.S.Sink.laws (at_position _ _ _ _ c.position.ensures (c.is_bracketed-bracketed.ensures _ _)) (c.is_body_bracketed-inner.ensures _ _)
    c.put_bracket.ensures c.put_bracket-2.ensures (rw c.unwrap_or.ensures at c.put.ensures) c.put_bracket-3.ensures (rw c.is_some.ensures at c.put_ascription.ensures) c.put_bracket-4.ensures

pub put_part-is_body_bracketed-inner-requires : goal.put_part-is_body_bracketed-inner-requires
put_part-is_body_bracketed-inner-requires g t c = body_held c.ascribed_body-ascribed.ensures (omega (arith, c.requires.has_term.held))

pub put-put_item-requires : goal.put-put_item-requires
put-put_item-requires g t c =
    let ready = item_ready _ _ _ _ _ _ g.met.S.Sink.laws c.loop-b.invariant (omega arith) in
    λ κs lives. (omega (arith, c.decreases), (lives, (c.requires, ready)))

pub put-loop-b-preserved : goal.put-loop-b-preserved
put-loop-b-preserved g t c = goes_on _ _ _ _ _ _ g.met.S.Sink.laws c.loop-b.invariant (omega arith) c.put_item.ensures

pub put-returns : goal.put-returns
put-returns g t c = ends_past _ _ _ _ _ _ g.met.S.Sink.laws c.loop-b.invariant (omega arith)

pub put-loop-b-init : goal.put-loop-b-init
put-loop-b-init g t c =
    start _ _ _ _ _ _ g.met.S.Sink.laws c.requires (kind_seen c.args.self.now.records.now c.args.n c.kind_at.ensures) c.format_of-b-items.ensures

pub put_item-name-requires : goal.put_item-name-requires
unfolding ItemReady
put_item-name-requires g t c =
    let below = rw (item_name c.args.b (digit c.args.b (omega arith) (omega arith))) at c.requires.has_item in
    c.requires.has_term.named _ (below_as {b = field_at c.args.self.now.records.now c.args.n (c.args.b - 48)} c.field-number.ensures.0 below)

pub put_item-returns-in-49-to-53 : goal.put_item-returns-in-49-to-53
unfolding item_text
put_item-returns-in-49-to-53 g t c =
    rw (item_name _ (digit c.args.b (omega arith) (omega arith)), ← c.field-number.ensures.0, ← c.name.ensures) c.put_all.ensures

pub put_item-put_part-requires : goal.put_item-put_part-requires
put_item-put_part-requires g t c =
    let ready = rw (item_part c.args.b (no_digit c.args.b (λ h k. omega (arith, c.in_default.branch))) _ c.in-Some.ensures) at c.requires.has_item in
    λ κs lives. (omega (arith, c.decreases), (lives, (c.requires.has_term, ready)))

pub put_item-returns-in-Some : goal.put_item-returns-in-Some
put_item-returns-in-Some g t c =
    rw (item_part _ (no_digit c.args.b (λ h k. omega (arith, c.in_default.branch))) _ c.in-Some.ensures) c.put_part.ensures

pub put_item-put_parameter_label-requires : goal.put_item-put_parameter_label-requires
unfolding ItemReady
put_item-put_parameter_label-requires g t c =
    printable_parameter _ _ c.requires.has_term.within c.requires.has_term.named (rw (item_of_parameter c.args.b c.in-76.is) at c.requires.has_item) _ c.parameter_at.ensures

pub put_item-returns-in-76 : goal.put_item-returns-in-76
unfolding item_text
put_item-returns-in-76 g t c =
    rw (item_of_parameter _ c.in-76.is, ← (parameter_label_shown c.args.self.now.propositions.memory.bytes.now c.args.self.now.propositions.memory.vocabulary c.args.self.now.records.now c.args.n c.parameter_at.ensures))
    c.put_parameter_label.ensures

pub put_item-put_label-requires : goal.put_item-put_label-requires
unfolding ItemReady
put_item-put_label-requires g t c =
    printable_label _ _ c.requires.has_term.within c.requires.has_term.named (rw (item_of_ascription c.args.b c.in-77.is) at c.requires.has_item) (sym c.label_at.ensures)

pub put_item-returns-in-77 : goal.put_item-returns-in-77
unfolding item_text
put_item-returns-in-77 g t c =
    rw (item_of_ascription _ c.in-77.is, ← (label_shown c.args.self.now.propositions.memory.bytes.now c.args.self.now.propositions.memory.vocabulary c.args.self.now.records.now c.args.n c.label_at.ensures))
    c.put_label.ensures

pub put_item-returns-in-None : goal.put_item-returns-in-None
unfolding item_text
put_item-returns-in-None g t c =
    let no_part = c.in-None.ensures in
    rw (item_fixed c.args.b (no_digit c.args.b (λ h k. omega (arith, c.in_default.branch))) no_part (λ h. omega (arith, h, c.in_default.branch)) (λ h. omega (arith, h, c.in_default.branch)))
    c.put.ensures
