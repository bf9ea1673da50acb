-- The walk back over the later premisses by the size table.
use Prim.Native.Nat.{◌-◌, ◌<◌}
use mathlib.Core.Path.{◌≡◌}
use mathlib.Core.Bool.{false}
use mathlib.Core.List.{[]}
use native.Mathlib.Omega.{arith}
use Rattle.definitions.specs.Admission.{too_few_trees}
use Rattle.steps.specs.Tables.{SizeTable}
use Rattle.steps.proofs.Tables.{size_table_shorter}
use Rattle.steps.proofs.Walk.{walk_start, walk_within, size_fits, walk_on, walk_in}
use Rattle.proof_tree.proofs.PremissSteps.{some_step, premiss_step}
use Rattle.proof_tree.proofs.step.premiss.Goals as goal
use Rattle.proof_tree.proofs.step.premiss.Goals.{In-loop, Start}

-- the sizes of the trees before step k
sized : (c : Start) → let s = c.args.steps.now in SizeTable s.records.now c.args.k s.sizes.now
sized c = size_table_shorter _ _ _ _ (omega arith) c.args.steps.now.exportable.table

found : (c : Start) → too_few_trees 0 [] [] c.args.steps.now.records.now c.args.k ≡ false
found c = c.args.steps.now.exportable.table.enough 0 [] [] _ (omega arith)

-- a premiss that is still to be passed ends before the walk's step
before : (c : In-loop) → 0 < c.loop.start
before c = walk_in c.loop.invariant.0 (found (goal.at.In-loop c).Start) (omega arith)

pub overflow_sub-start-in-loop : goal.overflow_sub-start-in-loop
overflow_sub-start-in-loop c =
    size_fits c.loop.invariant.0 _ (sized (goal.at.overflow_sub-start-in-loop c).Start) (before (goal.at.overflow_sub-start-in-loop c).In-loop)

pub loop-preserved : goal.loop-preserved
loop-preserved c =
    let l = c.loop.invariant in
    (walk_on l.0 _ (sized (goal.at.loop-preserved c).Start) (before (goal.at.loop-preserved c).In-loop), omega arith, l.2)

pub overflow_sub-result : goal.overflow_sub-result
overflow_sub-result c =
    some_step c.loop.invariant.0 (found (goal.at.overflow_sub-result c).Start) c.args.position (omega arith)

pub loop-init : goal.loop-init
loop-init c = (walk_start _ _, omega arith, omega arith)

pub overflow_sub-start : goal.overflow_sub-start
overflow_sub-start c = before c

pub offset_bounds-sizes-start : goal.offset_bounds-sizes-start
offset_bounds-sizes-start c = omega (arith, walk_within c.loop.invariant.0)

pub bounds-sizes-start : goal.bounds-sizes-start
bounds-sizes-start c = omega (arith, before (goal.at.bounds-sizes-start c).In-loop, walk_within c.loop.invariant.0)

pub returns : goal.returns
returns c = premiss_step c.loop.invariant.0 (found (goal.at.returns c).Start) _ (omega arith)
