-- The loop's invariant: all the parameters stand from `at` on exactly where those that are left stand from `i` on.
use Prim.Native.Nat.{◌-◌}
use mathlib.Core.Path.{◌≡◌}
use native.Mathlib.Omega.{arith}
use lib.ListN.{drop}
use Rattle.prefix_code.proofs.Runs.{walk_step, walk_stop, walk_end}
use Rattle.prefix_code.proofs.Parameters.{several_run}
use Rattle.prefix_code.proofs.parameters_end.Goals as goal

pub returns : goal.returns
returns c =
    let none : c.args.count - c.loop.counter ≡ 0 = omega arith in
    walk_end _ _ _ c.requires (rw none at c.loop.invariant)

pub loop-init : goal.loop-init
loop-init c =
    let all : c.args.count - 0 ≡ c.args.count = omega arith in
    rw all (record { inside = c.requires; same = several_run _ _ (drop c.args.at c.args.code.now) })

pub returns-in_err-i : goal.returns-in_err-i
returns-in_err-i c = rw c.from_residual.ensures (walk_stop _ _ _ _ c.loop.invariant (omega arith) c.in_err-i.ensures)

pub loop-preserved : goal.loop-preserved
loop-preserved c = walk_step _ _ _ _ _ _ c.loop.invariant (omega arith) c.in_ok-i.ensures
