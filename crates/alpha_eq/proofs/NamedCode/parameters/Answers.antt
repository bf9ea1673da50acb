-- The first two of the parameters that are left decide, and after a yes the others do.
use Prim.Native.Nat.{◌+◌, ◌-◌}
use mathlib.Core.Path.{◌≡◌}
use native.Mathlib.Omega.{arith}
use Rattle.std.proofs.Common.{rules}
use Rattle.alpha_eq.proofs.Outcomes.{no_stops, refusal_stops}
use Rattle.alpha_eq.proofs.Parameters.{all_left, first_asked, parameters_inside, first_stops, others_left, none_left}
use Rattle.alpha_eq.proofs.NamedCode.parameters.Goals as goal

pub loop-init : goal.loop-init
loop-init c = all_left _ _ _ c.requires

pub parameter-requires : goal.parameter-requires
parameter-requires c = let first = first_asked c.loop.invariant (omega (arith, c.loop-test.true)) in
    record { comparable = first; inside = parameters_inside first.two }

pub returns-in_err-next : goal.returns-in_err-next
returns-in_err-next c =
    let passed : c.from_residual.result ≡ c.parameter.result = search rules in
    rw passed
    (first_stops c.loop.invariant (omega (arith, c.loop-test.true)) c.parameter.ensures (rw c.in_err-next.was (refusal_stops _)))

pub returns-in_default : goal.returns-in_default
returns-in_default c =
    first_stops c.loop.invariant (omega (arith, c.loop-test.true)) (rw c.in_default.is at c.in_ok-next.ensures) no_stops

pub loop-preserved : goal.loop-preserved
loop-preserved c =
    let others : c.args.count - (c.loop.counter + 1) ≡ c.args.count - c.loop.counter - 1 = omega arith in
    rw others (others_left c.loop.invariant (omega (arith, c.loop-test.true)) (rw c.in-Some.is at c.in_ok-next.ensures))

pub returns : goal.returns
returns c = none_left c.loop.invariant (omega (arith, c.loop-test.false))
