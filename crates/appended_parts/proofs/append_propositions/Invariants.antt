-- The invariant: the propositions below i are appended.
use Rattle.definitions.specs.Sheet.{propositions}
use Rattle.appended_parts.specs.Appended.{codes_below}
use Rattle.appended_parts.proofs.Turns.{Turning}
use Rattle.appended_parts.proofs.append_propositions.Given as goal

abbrev pub invariant-loop-i : goal.invariant-loop-i
invariant-loop-i l =
    Turning (propositions l.donor) l.i l.from (codes_below l.donor l.numbers) l.initial.pairs l.initial.code l.pairs l.code l.appended
