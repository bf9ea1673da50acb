-- A byte stands for a name, a part, a label or itself, by the tests that the printing tells it by.
use mathlib.Core.Path.{sym, ap, ◌∙◌}
use native.Mathlib.Omega.{arith}
use lib.ListN.{length}
use Rattle.proof_term_display.specs.Format.{item_text}
use Rattle.proof_term_display.proofs.Items.{digit, no_digit, item_name, item_part, item_fixed}
use Rattle.proof_term_display.proofs.Items.{item_of_parameter, item_of_ascription}
use Rattle.proof_term_display.proofs.Labels.{printable_label, printable_parameter, label_shown, parameter_label_shown}
use Rattle.proof_term_length.specs.Measure.{ItemFits}
use Rattle.proof_term_length.specs.OfMeasure.{size_of_name}
use Rattle.proof_term_length.proofs.Sums.{agree_exactly}
use Rattle.proof_term_length.proofs.Measure.item_length.Goals as goal

pub parameter_length-requires-clause-has_label : goal.parameter_length-requires-clause-has_label
unfolding ItemFits
parameter_length-requires-clause-has_label c =
    let names = c.requires.measurable.names in
    printable_parameter _ _ names.within names.named (rw (item_of_parameter c.args.b c.in-76.is) at c.requires.fits) _ c.parameter_at.ensures

pub returns-in-76 : goal.returns-in-76
unfolding item_text
returns-in-76 c =
    let m = c.args.self.now in
    let shown = parameter_label_shown m.printer.propositions.memory.bytes.now m.printer.propositions.memory.vocabulary m.printer.records.now c.args.n c.parameter_at.ensures in
    rw (item_of_parameter _ c.in-76.is) (agree_exactly (c.parameter_length.ensures.0 ∙ ap length shown), c.parameter_length.ensures.1)

pub label_length-requires-clause-has_label : goal.label_length-requires-clause-has_label
unfolding ItemFits
label_length-requires-clause-has_label c =
    let names = c.requires.measurable.names in
    printable_label _ _ names.within names.named (rw (item_of_ascription c.args.b c.in-77.is) at c.requires.fits) (sym c.label_at.ensures)

pub returns-in-77 : goal.returns-in-77
unfolding item_text
returns-in-77 c =
    let m = c.args.self.now in
    let shown = label_shown m.printer.propositions.memory.bytes.now m.printer.propositions.memory.vocabulary m.printer.records.now c.args.n c.label_at.ensures in
    rw (item_of_ascription _ c.in-77.is) (agree_exactly (c.label_length.ensures.0.is ∙ ap length shown), c.label_length.ensures.1)

pub returns-in-49-to-53 : goal.returns-in-49-to-53
unfolding item_text
returns-in-49-to-53 c =
    rw (item_name _ (digit c.args.b (omega arith) (omega arith))) (agree_exactly (c.name_in.ensures ∙ ap (size_of_name c.args.self.now c.args.n) c.from.ensures), c.requires.known)

pub returns-in-Some : goal.returns-in-Some
returns-in-Some c =
    rw (item_part _ (no_digit c.args.b (λ h k. omega (arith, c.in_default.branch))) _ c.in-Some.ensures) (c.part_in.ensures, c.requires.known)

pub returns-in-None : goal.returns-in-None
unfolding item_text
returns-in-None c =
    let no_part = c.in-None.ensures in
    rw (item_fixed c.args.b (no_digit c.args.b (λ h k. omega (arith, c.in_default.branch))) no_part (λ h. omega (arith, h, c.in_default.branch)) (λ h. omega (arith, h, c.in_default.branch)))
    (agree_exactly (omega arith), c.requires.known)
