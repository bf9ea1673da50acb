-- The hypotheses before those that are left are entered.
use mathlib.Core.Path.{◌≡◌}
use Rattle.std.specs.Slice.Iter.{chunks_exact_rest, chunks_exact_size}
use Rattle.hypotheses.specs.Entered.{Enterable}
use Rattle.hypotheses.proofs.Entering.{Before}
use Rattle.hypotheses.proofs.assume.Given as goal

abbrev pub invariant-loop-pair : goal.invariant-loop-pair
invariant-loop-pair l =
    (chunks_exact_size l.pair-iterator ≡ 2) × ((e : Enterable l.numbers l.pairs l.hypotheses l.initial.scope) × Before e (chunks_exact_rest l.pair-iterator) l.scope)
