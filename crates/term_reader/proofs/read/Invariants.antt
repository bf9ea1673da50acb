-- The invariant: the machine is between two turns. The measure is what is left.
use Rattle.term_stack.specs.Standing.{left_of}
use Rattle.term_reader.proofs.Turns.{Looping}
use Rattle.term_reader.proofs.read.Given as goal

abbrev pub invariant-loop-names : goal.invariant-loop-names
invariant-loop-names l = Looping l.types l.initial.names.text.now l.initial.code l.names l.code l.work l.state

abbrev pub decreases-loop-names : goal.decreases-loop-names
decreases-loop-names l = left_of l.initial.names.text.now l.state
