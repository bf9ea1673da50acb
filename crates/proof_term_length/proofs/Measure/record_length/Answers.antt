-- One byte or item more is counted in each turn.
use Rattle.proof_term_display.proofs.Tables.{kind_seen}
use Rattle.proof_term_length.proofs.Progress.{start, goes_on_fixed, goes_on}
use Rattle.proof_term_length.proofs.Measure.record_length.Goals as goal
use Rattle.proof_term_length.proofs.Measure.record_length.Goals.{then-is_outside, else-is_outside}

pub loop-b-init : goal.loop-b-init
loop-b-init c =
    (start _ _ _ _ _ _ _ c.kind_at.result c.requires.measurable (kind_seen c.args.self.now.printer.records.now c.args.n c.kind_at.ensures) c.format_of-b-items.ensures, c.requires.known)

pub loop-b-preserved : goal.loop-b-preserved
loop-b-preserved c =
    let (counted, known) = c.loop-b.invariant in
    elim c.if-is_outside.branch [
      | then-is_outside w ↦
          rw (w.known-is, w.length-is, w.fixed-is) (goes_on_fixed _ _ _ _ _ _ _ counted c.loop-b-test.true (c.is_outside.ensures w.if-is_outside.true), known)
      | else-is_outside w ↦
          rw (w.known-is, w.length-is, w.fixed-is)
          (goes_on _ _ _ _ _ _ _ counted c.loop-b-test.true w.item_length-item.ensures.0 w.sum-length.ensures, w.item_length-item.ensures.1)
    ]
