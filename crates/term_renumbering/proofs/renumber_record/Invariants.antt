-- The invariant: the numbers before i are over other names, and all others are as they were.
use Rattle.renumbering.specs.Renumbered.{mapped}
use Rattle.term_renumbering.proofs.Numbers.{Partly}
use Rattle.term_renumbering.proofs.renumber_record.Given as goal

abbrev pub invariant-loop-i : goal.invariant-loop-i
invariant-loop-i l = Partly (mapped l.numbers) l.initial.row l.kind l.label l.i l.row
