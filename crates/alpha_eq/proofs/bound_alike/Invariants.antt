-- The invariant: the bindings not yet seen, the earlier ones, decide as all of them do.
use mathlib.Core.Path.{◌≡◌}
use Rattle.alpha_eq.specs.Bindings.{numbers, Bound}
use Rattle.alpha_eq.specs.Comparing.{bound_alike_in}
use Rattle.alpha_eq.proofs.bound_alike.Given as goal

abbrev pub invariant-loop-rest : goal.invariant-loop-rest
invariant-loop-rest l =
    Bound l.names.pairs.now l.names.bytes.now (numbers l.rest)
    × (bound_alike_in l.names.pairs.now l.names.bytes.now (numbers l.rest) l.x l.y ≡ bound_alike_in l.names.pairs.now l.names.bytes.now (numbers l.bindings) l.x l.y)
