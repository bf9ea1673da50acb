-- The loop's invariant: the records below m keep their counts, and all other numbers are as they were.
use Rattle.term_sizes.proofs.Filling.{Filled}
use Rattle.term_sizes.proofs.fill_sizes.Given as goal

abbrev pub invariant-loop-m : goal.invariant-loop-m
invariant-loop-m l = Filled l.initial.records l.m l.records
