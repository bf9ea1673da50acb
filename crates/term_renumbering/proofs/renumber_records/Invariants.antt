-- The loop's invariant: the records before m are over other names, and no other has changed.
use Rattle.renumbering.specs.Renumbered.{mapped}
use Rattle.term_renumbering.proofs.Numbers.{Upto}
use Rattle.term_renumbering.proofs.renumber_records.Given as goal

abbrev pub invariant-loop-m : goal.invariant-loop-m
invariant-loop-m l = Upto (mapped l.numbers) l.initial.records l.m l.records
