-- The invariant: all of fewer connectives are passed.
use Rattle.exercises.proofs.Unranked.{Locating}
use Rattle.exercises.proofs.locate.Given as goal

abbrev pub invariant-loop-size : goal.invariant-loop-size
invariant-loop-size l = Locating l.names l.n l.ordinal l.size l.index
