-- Nothing is written where there is no ascription, and a colon and the label after the body of one.
use mathlib.Core.Path.{sym}
use Rattle.proof_term_display.specs.Ascriptions.{after_body}
use Rattle.proof_term_display.proofs.Labels.{printable_label, label_shown}
use Rattle.proof_term_display.proofs.Printer.put_ascription.Goals as goal

pub returns-then-is_ascription : goal.returns-then-is_ascription
unfolding after_body
returns-then-is_ascription g c =
    rw (c.if-is_ascription.true, ← (label_shown c.args.self.now.propositions.memory.bytes.now c.args.self.now.propositions.memory.vocabulary c.args.self.now.records.now c.args.n c.label_at.ensures))
    (g.met.S.Sink.laws.then c.put_all.ensures c.put_label.ensures)

pub put_label-requires : goal.put_label-requires
put_label-requires g c = printable_label _ _ c.requires.has_term.within c.requires.has_term.named (c.requires.has_label c.if-is_ascription.true) (sym c.label_at.ensures)
