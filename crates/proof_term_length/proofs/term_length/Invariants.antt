-- The loop's invariant: the records below m are measured, and the table of texts has only lengths of texts.
use mathlib.Core.Path.{◌≡◌}
use lib.ListN.{length}
use Rattle.proof_term_length.specs.OfMeasure.{LengthsBelow, KnownLengths}
use Rattle.proof_term_length.proofs.term_length.Given as goal

abbrev pub invariant-loop-m : goal.invariant-loop-m
invariant-loop-m l =
    (length l.lengths ≡ 2048) × LengthsBelow l.measure l.lengths l.m × KnownLengths l.measure.printer.propositions l.known
