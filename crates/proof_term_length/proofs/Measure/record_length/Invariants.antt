-- The loop's invariant: the items before b are counted, and the table of texts has only lengths of texts.
use Rattle.proof_term_length.specs.OfMeasure.{KnownLengths}
use Rattle.proof_term_length.proofs.Progress.{Counted}
use Rattle.proof_term_length.proofs.Measure.record_length.Given as goal

abbrev pub invariant-loop-b : goal.invariant-loop-b
invariant-loop-b l =
    let m = l.self.printer in
    Counted m.style m.propositions.memory.bytes.now m.propositions.memory.vocabulary m.propositions.ends.now m.records.now l.n l.self.cap l.b-items l.length l.fixed l.b-index
    × KnownLengths m.propositions l.known
