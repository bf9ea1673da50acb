-- The table is filled step by step, up to the first that finds too few trees.
use Prim.Native.Nat.{ℕ}
use mathlib.Core.List.{List, []}
use native.Mathlib.Omega.{arith}
use Rattle.std.specs.Prelude.{Option, ℕ}
use Rattle.definitions.specs.Admission.{too_few_trees}
use Rattle.steps.specs.Tables.{TreeStart, SizeTable, FilledSizes}
use Rattle.steps.proofs.Tables.{size_table_none, size_table_more}
use Rattle.steps.proofs.Filling.{Filled, filling_none, filling_more, filling_stopped, filling_done}
use Rattle.steps.proofs.fill_sizes.Goals as goal

answer : {records : List ℕ} {steps : ℕ} {before after : List ℕ} {r : Option ℕ}
    → Filled (λ names pairs code. too_few_trees names pairs code records) (SizeTable records) steps before r after
    → FilledSizes records steps before r after
answer f = record { found = f.found; table = f.table; kept = f.kept }

pub returns-in_default : goal.returns-in_default
unfolding TreeStart
returns-in_default c =
    answer (filling_stopped c.loop-k.invariant c.loop-k-test.true
    (rw c.in_default.is at c.next_start.ensures))

pub overflow_sub-sizes : goal.overflow_sub-sizes
unfolding TreeStart
overflow_sub-sizes c =
    let s = rw c.in-Some.is at c.next_start.ensures in
    omega (arith, (s 0 [] []).1)

pub loop-k-preserved : goal.loop-k-preserved
unfolding TreeStart
loop-k-preserved c =
    let f = c.loop-k.invariant in
    let s = rw c.in-Some.is at c.next_start.ensures in
    filling_more f _ c.loop-k-test.true (λ names pairs code. (s names pairs code).0)
    (size_table_more _ _ _ _ (omega arith) f.table s)

pub returns : goal.returns
returns c = answer (filling_done c.loop-k.invariant (omega arith))

pub loop-k-init : goal.loop-k-init
loop-k-init c = filling_none _ _ _ _ (size_table_none _ _)
