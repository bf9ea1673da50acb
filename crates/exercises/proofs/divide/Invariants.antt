-- The invariant: so many blocks of left parts with fewer connectives are passed.
use Rattle.exercises.proofs.Unranked.{Dividing}
use Rattle.exercises.proofs.divide.Given as goal

abbrev pub invariant-loop-size : goal.invariant-loop-size
invariant-loop-size l = Dividing l.names l.k l.i l.size l.rest
