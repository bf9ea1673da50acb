-- The walk back over the premisses by the size table meets the deepest of them.
use Prim.Native.Nat.{◌<◌}
use mathlib.Core.List.{[]}
use native.Mathlib.Omega.{arith}
use Rattle.definitions.specs.Sheet.{step_limit}
use Rattle.steps.specs.Tables.{SizeTable}
use Rattle.steps.proofs.Walk.{walk_start, walk_within, size_fits, walk_on, walk_in}
use Rattle.steps.proofs.Deepest.{deepest_none, deepest_more, deepest_within, deepest_all}
use Rattle.steps.proofs.Tables.{size_table_shorter}
use Rattle.steps.proofs.sized_steps.SizedSteps.tree_height.Goals as goal
use Rattle.steps.proofs.sized_steps.SizedSteps.tree_height.Goals.{In-loop, Start}

-- the sizes of the trees before step k
sized : (c : Start) → SizeTable c.args.self.now.step_records.now c.args.k c.args.self.now.sizes.now
sized c = size_table_shorter _ _ _ _ (omega arith) c.args.self.now.sized.sizes

-- a premiss that is still to be passed ends before the walk's step
before : (c : In-loop) → 0 < c.loop.start
before c =
    walk_in c.loop.invariant.0 (c.args.self.now.sized.sizes.enough 0 [] [] _ (omega arith)) (omega arith)

pub overflow_sub-start : goal.overflow_sub-start
overflow_sub-start c =
    size_fits c.loop.invariant.0 _ (sized (goal.at.overflow_sub-start c).Start) (before (goal.at.overflow_sub-start c).In-loop)

pub loop-preserved : goal.loop-preserved
loop-preserved c =
    let l = c.loop.invariant in
    let n = before (goal.at.loop-preserved c).In-loop in (
      walk_on l.0 _ (sized (goal.at.loop-preserved c).Start) n,
      rw c.max-deepest.ensures (deepest_more _ _ _ _ _ _ c.requires.2 l.0 n l.1),
      omega arith,
      l.3,
    )

pub overflow_add-result : goal.overflow_add-result
unfolding step_limit
overflow_add-result c = let l = c.loop.invariant in omega (arith, deepest_within _ _ _ _ _ l.0 l.1, c.args.self.now.sized.few)

pub loop-init : goal.loop-init
loop-init c = (walk_start _ _, deepest_none _ _, omega arith, c.premiss_count-premisses.ensures)

pub overflow_sub-last : goal.overflow_sub-last
overflow_sub-last c = before c

pub bounds-heights-last : goal.bounds-heights-last
bounds-heights-last c = omega (arith, before (goal.at.bounds-heights-last c).In-loop, walk_within c.loop.invariant.0)

pub bounds-sizes-last : goal.bounds-sizes-last
bounds-sizes-last c =
    omega (arith, before (goal.at.bounds-sizes-last c).In-loop, walk_within c.loop.invariant.0, c.args.self.now.sized.within)

pub returns : goal.returns
returns c = deepest_all _ _ _ _ (omega arith) c.loop.invariant.1
