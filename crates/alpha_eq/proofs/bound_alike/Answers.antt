-- The latest binding that is not yet seen decides, or the earlier ones do.
use mathlib.Core.Path.{◌≡◌, sym, ap, ◌∙◌}
use mathlib.Core.Bool.{◌||◌, ◌&&◌, cond, true, true≢false}
use mathlib.Core.Logic.{⊎_elim}
use mathlib.Core.List.{◌∷◌}
use Rattle.definitions.specs.Outcome.{accepted, refused, refuse}
use Rattle.identifier.proofs.Within.{last_within}
use Rattle.alpha_eq.specs.Bindings.{numbers, Bound}
use Rattle.alpha_eq.specs.Comparing.{bound_alike_in}
use Rattle.alpha_eq.proofs.Bindings.{numbers_latest, numbers_empty, latest_decides, none_bound}
use Rattle.alpha_eq.proofs.bound_alike.Goals as goal
use Rattle.alpha_eq.proofs.bound_alike.Goals.{In-Latest, After-same_bytes-binds_y}

within : (c : In-Latest) → Bound c.args.names.pairs.now c.args.names.bytes.now (c.in-Latest.objects ∷ numbers c.in-Latest.earlier.now)
within c = rw (c.in-Latest.is, numbers_latest) at c.loop-rest.invariant.0

decided : (c : After-same_bytes-binds_y) → let s = c.args in
    let x = c.same_bytes-binds_x.result in
    let y = c.same_bytes-binds_y.result in
    cond (x || y) (accepted (x && y)) (bound_alike_in s.names.pairs.now s.names.bytes.now (numbers c.in-Latest.earlier.now) s.x s.y)
    ≡ bound_alike_in s.names.pairs.now s.names.bytes.now (numbers s.bindings.now) s.x s.y
decided c =
    sym (latest_decides _ _ _ _ c.in-Latest.objects (numbers c.in-Latest.earlier.now) c.same_bytes-binds_x.ensures c.same_bytes-binds_y.ensures)
    ∙ (rw (c.in-Latest.is, numbers_latest) at c.loop-rest.invariant.1)

pub same_bytes-binds_x-requires : goal.same_bytes-binds_x-requires
same_bytes-binds_x-requires c = (last_within (within (goal.at.same_bytes-binds_x-requires c).In-Latest).0, c.requires.name_within.0)

pub same_bytes-binds_y-requires : goal.same_bytes-binds_y-requires
same_bytes-binds_y-requires c = (last_within (within (goal.at.same_bytes-binds_y-requires c).In-Latest).1, c.requires.name_within.1)

pub returns-then-binds_x-2 : goal.returns-then-binds_x-2
returns-then-binds_x-2 c = rw c.if-binds_x-2.true at (decided (goal.at.returns-then-binds_x-2 c).After-same_bytes-binds_y)

pub returns-else-binds_x-2 : goal.returns-else-binds_x-2
returns-else-binds_x-2 c =
    let y : c.same_bytes-binds_y.result ≡ true =
    ⊎_elim (λ x. absurd (true≢false (sym x ∙ c.if-binds_x-2.false))) (λ both. both.1) c.then-binds_x.either in
    rw c.if-binds_x-2.false (rw (c.if-binds_x-2.false, y) at (decided (goal.at.returns-else-binds_x-2 c).After-same_bytes-binds_y))

pub loop-rest-preserved : goal.loop-rest-preserved
loop-rest-preserved c = (
  (within (goal.at.loop-rest-preserved c).In-Latest).2,
  rw (c.if-binds_x.false, c.if-binds_y.false) at (decided (goal.at.loop-rest-preserved c).After-same_bytes-binds_y),
)

pub returns : goal.returns
unfolding refuse
returns c = ap refused c.at.ensures ∙ sym (none_bound _ _ _ _) ∙ (rw (c.in_default.is, numbers_empty) at c.loop-rest.invariant.1)
