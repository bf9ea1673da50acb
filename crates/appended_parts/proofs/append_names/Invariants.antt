-- The invariant: the missing names below n are appended.
use Rattle.definitions.specs.Sheet.{names, text_length}
use Rattle.graft_laws.specs.Missing.{missing_below}
use Rattle.appended_parts.proofs.Turns.{Turning}
use Rattle.appended_parts.proofs.append_names.Given as goal

abbrev pub invariant-loop-n : goal.invariant-loop-n
invariant-loop-n l =
    Turning (names l.sheets.donor.now) l.n (text_length l.sheets.host.now) (missing_below l.sheets.host.now l.sheets.donor.now) l.initial.pairs l.initial.text l.pairs l.text l.appended
