-- The loop's invariant: a shallow proposition stands from `at` on exactly where the parts that are left, less deep by one,
-- stand from `i` on. The calls end by the depth.
use Prim.Native.Nat.{ℕ, ◌-◌}
use mathlib.Core.Path.{◌≡◌}
use native.Mathlib.Nat.{pos_of_ne-zero}
use native.Mathlib.Omega.{arith}
use lib.ListN.{get_or}
use Rattle.prefix_code.specs.Head.{parts_after}
use Rattle.prefix_code.proofs.Runs.{walk_step, walk_stop, walk_end}
use Rattle.prefix_code.proofs.Propositions.{headed}
use Rattle.prefix_code.proofs.Depth.{no_flat, shallow_walk, no_shallow}
use Rattle.prefix_code.proofs.+shallow_end.Goals as goal
use Rattle.prefix_code.proofs.+shallow_end.Goals.{After-parts-end}

-- how many parts follow the head, by its byte
counted : (t : ℕ) → (c : After-parts-end t) → c.parts-end.result ≡ parts_after (get_or c.args.code.now c.args.at 0)
counted t c = rw c.of_known.ensures c.parts-end.ensures

pub returns-then-depth-eq0 : goal.returns-then-depth-eq0
returns-then-depth-eq0 t c = no_flat _ _ _ _ c.if-depth-eq0.true

pub returns-in_err-i : goal.returns-in_err-i
returns-in_err-i t c = rw c.from_residual.ensures (no_shallow _ _ _ _ (pos_of_ne-zero c.if-depth-eq0.false) c.in_err-i.ensures)

pub bounds-code-at : goal.bounds-code-at
bounds-code-at t c = (headed _ _ _ _ c.in_ok-i.ensures).inside

pub of_known-requires : goal.of_known-requires
of_known-requires t c = (headed _ _ _ _ c.in_ok-i.ensures).known

pub loop-init : goal.loop-init
loop-init t c =
    let parts : ℕ = parts_after (get_or c.args.code.now c.args.at 0) in
    let all : parts - 0 ≡ parts = omega arith in
    rw all
    (shallow_walk _ _ _ _ _ (pos_of_ne-zero c.if-depth-eq0.false) c.in_ok-i.ensures)

pub overflow_sub-depth : goal.overflow_sub-depth
overflow_sub-depth t c = pos_of_ne-zero c.if-depth-eq0.false

pub shallow_end-requires : goal.shallow_end-requires
shallow_end-requires t c = (omega (arith, pos_of_ne-zero c.if-depth-eq0.false), c.loop.invariant.inside)

pub returns-in_err-i-2 : goal.returns-in_err-i-2
returns-in_err-i-2 t c =
    rw c.from_residual-in_err-i-2.ensures
    (walk_stop _ _ _ _ c.loop.invariant (omega (arith, counted t (goal.at.returns-in_err-i-2 t c).After-parts-end)) c.in_err-i-2.ensures)

pub loop-preserved : goal.loop-preserved
loop-preserved t c =
    walk_step _ _ _ _ _ _ c.loop.invariant (omega (arith, counted t (goal.at.loop-preserved t c).After-parts-end))
    c.in_ok-i-2.ensures

pub returns : goal.returns
returns t c =
    let none : parts_after (get_or c.args.code.now c.args.at 0) - c.loop.counter ≡ 0 = omega (arith, counted t (goal.at.returns t c).After-parts-end) in
    walk_end _ _ _ c.requires (rw none at c.loop.invariant)
