-- A part is an earlier record, whose length the table has, or Unit.
use mathlib.Core.Path.{◌≡◌, ap, ◌∙◌}
use native.Mathlib.Omega.{arith}
use Rattle.proof_term.specs.Records.{field_at}
use Rattle.proof_term_display.specs.Format.{part_field, part_number}
use Rattle.proof_term_display.proofs.Tables.{at_position}
use Rattle.proof_term_length.proofs.Sums.{agree_exactly, agree_as_far}
use Rattle.proof_term_length.proofs.Counting.{unit_size, bracketed_size, bare_size}
use Rattle.proof_term_length.proofs.Measure.part_in.Goals as goal
use Rattle.proof_term_length.proofs.Measure.part_in.Goals.{After-field-number}

number_is : (c : After-field-number) → let s = c.args in
    c.field-number.result ≡ field_at s.self.now.printer.records.now s.n (part_field (part_number s.which))
number_is c = c.field-number.ensures.0 ∙ ap (field_at _ _) c.field.ensures

pub returns-then-n-number : goal.returns-then-n-number
returns-then-n-number c =
    agree_exactly (unit_size _ _ _ _ c.args.self.now.printer.style _ _ (number_is (goal.at.returns-then-n-number c).After-field-number) c.if-n-number.true)

pub returns-then-is_bracketed : goal.returns-then-is_bracketed
returns-then-is_bracketed c =
    let s = c.args in
    let m = s.self.now in
    let bracketed = at_position _ _ _ _ c.position.ensures (c.is_bracketed.ensures _ _) in
    let size = bracketed_size m.printer.propositions.memory.bytes.now m.printer.propositions.memory.vocabulary m.printer.records.now s.n m.printer.style _ _ (number_is (goal.at.returns-then-is_bracketed c).After-field-number) c.if-n-number.false bracketed c.if-is_bracketed.true in
    rw size (record { same = omega (arith, c.requires.measured_below _ c.if-n-number.false, c.sum.ensures) })

pub returns : goal.returns
returns c =
    let s = c.args in
    let m = s.self.now in
    let bracketed = at_position _ _ _ _ c.position.ensures (c.is_bracketed.ensures _ _) in
    let size = bare_size m.printer.propositions.memory.bytes.now m.printer.propositions.memory.vocabulary m.printer.records.now s.n m.printer.style _ _ (number_is (goal.at.returns c).After-field-number) c.if-n-number.false bracketed c.if-is_bracketed.false in
    rw size (agree_as_far (c.requires.measured_below _ c.if-n-number.false))
