-- The invariant: the propositions before k stand over other names, and all past the code is as it was.
use Rattle.standing_code.specs.Over.{Codes}
use Rattle.standing_code.proofs.Places.{Below}
use Rattle.standing_code.proofs.put_code.Given as goal

abbrev pub invariant-loop-k : goal.invariant-loop-k
invariant-loop-k l = (c : Codes l.names l.propositions.pairs.now l.propositions.bytes.now l.count l.numbers l.initial.out) → Below c l.k l.out
