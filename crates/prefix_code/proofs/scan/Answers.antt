-- The loop's invariant: a proposition stands from `at` on exactly where the needed ones stand from `i` on.
use mathlib.Core.Path.{◌≡◌}
use native.Mathlib.Omega.{arith}
use lib.ListN.{get_or}
use Rattle.prefix_code.specs.Head.{parts_after}
use Rattle.prefix_code.proofs.Runs.{walk_end}
use Rattle.prefix_code.proofs.Propositions.{Headed, headed, walk_head, walk_no_head}
use Rattle.prefix_code.proofs.scan.Goals as goal
use Rattle.prefix_code.proofs.scan.Goals.{In_ok-end, After-parts}

-- where the head ends
head : (c : In_ok-end) → Headed c.args.code.now c.loop-needed.i c.in_ok-end.end
head c = headed _ _ _ _ c.in_ok-end.ensures

-- how many parts follow it, by its byte
counted : (c : After-parts) → c.parts.result ≡ parts_after (get_or c.args.code.now c.loop-needed.i 0)
counted c = rw c.of_known.ensures c.parts.ensures

pub loop-needed-preserved : goal.loop-needed-preserved
loop-needed-preserved c =
    let walked = walk_head _ _ _ _ _ _ c.loop-needed.invariant.0 c.loop-needed-test.true c.in_ok-end.ensures in
    let count = counted (goal.at.loop-needed-preserved c).After-parts in
    (rw count walked, omega (arith, count, head (goal.at.loop-needed-preserved c).In_ok-end))

pub returns : goal.returns
returns c =
    let none : c.loop-needed.needed ≡ 0 = omega arith in
    walk_end _ _ _ c.requires (rw none at c.loop-needed.invariant.0)

pub returns-in_err-end : goal.returns-in_err-end
returns-in_err-end c =
    rw c.from_residual.ensures (walk_no_head _ _ _ _ _ c.loop-needed.invariant.0 c.loop-needed-test.true c.in_err-end.ensures)

pub bounds-code-i : goal.bounds-code-i
bounds-code-i c = (head (goal.at.bounds-code-i c).In_ok-end).inside

pub of_known-requires : goal.of_known-requires
of_known-requires c = (head (goal.at.of_known-requires c).In_ok-end).known

pub overflow_add-needed : goal.overflow_add-needed
overflow_add-needed c =
    omega (arith, counted (goal.at.overflow_add-needed c).After-parts, head (goal.at.overflow_add-needed c).In_ok-end)

pub loop-needed-smaller : goal.loop-needed-smaller
loop-needed-smaller c = omega (arith, head (goal.at.loop-needed-smaller c).In_ok-end)
