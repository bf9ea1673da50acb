-- A part is an earlier record, and a record's items come before its term: so the number falls, and of one number first the
-- term, then its items, then its parts. The term's text is written by the items of its format, one after the other.
use Prim.Native.Nat.{◌+◌, ◌*◌}
use Rattle.proof_term_display.proofs.Progress.{Underway}
use Rattle.proof_term_display.proofs.Printer.+put.Given as goal

abbrev pub decreases-put_part : goal.decreases-put_part
decreases-put_part g l = 3 * l.n

abbrev pub decreases-put : goal.decreases-put
decreases-put g l = 3 * l.n + 2

abbrev pub decreases-put_item : goal.decreases-put_item
decreases-put_item g l = 3 * l.n + 1

abbrev pub invariant-put-loop-b : goal.invariant-put-loop-b
invariant-put-loop-b g l =
    let p = l.self in
    Underway p.style p.propositions.memory.bytes.now p.propositions.memory.vocabulary p.propositions.ends.now p.records.now l.n g.S.Sink.puts l.initial.sink l.b-items l.sink l.b-index
