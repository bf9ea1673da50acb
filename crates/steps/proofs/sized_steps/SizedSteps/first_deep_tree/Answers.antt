-- The nestings are kept step by step, up to the first that is too deep.
use Prim.Native.Nat.{ℕ}
use mathlib.Core.List.{List}
use native.Mathlib.Omega.{arith}
use borrow.Author.Tests.{lt-ltb, le-ltb}
use Rattle.std.specs.Prelude.{Option, ℕ}
use Rattle.steps.specs.Tables.{HeightTable, FilledHeights}
use Rattle.steps.proofs.Tables.{height_table_none, height_table_more}
use Rattle.steps.proofs.Filling.{Filled, filling_none, filling_more, filling_stopped, filling_done}
use Rattle.steps.proofs.sized_steps.SizedSteps.first_deep_tree.Goals as goal
use Rattle.steps.proofs.sized_steps.SizedSteps.first_deep_tree.Invariants.{deeper}

answer : {records : List ℕ} {steps limit : ℕ} {before after : List ℕ} {r : Option ℕ}
    → Filled (deeper records limit) (HeightTable records) steps before r after
    → FilledHeights records steps limit before r after
answer f = record { found = f.found; table = f.table; kept = f.kept }

pub returns-then-limit-height : goal.returns-then-limit-height
returns-then-limit-height c =
    let h = c.tree_height-height.ensures in
    answer (filling_stopped c.loop-k.invariant c.loop-k-test.true
    (λ names pairs code. rw (h names pairs code) at (lt-ltb _ _ c.if-limit-height.true)))

pub loop-k-preserved : goal.loop-k-preserved
loop-k-preserved c =
    let f = c.loop-k.invariant in
    let h = c.tree_height-height.ensures in
    filling_more f _ c.loop-k-test.true (λ names pairs code. rw (h names pairs code) at (le-ltb _ _ c.if-limit-height.false))
    (height_table_more _ _ _ _ (omega arith) f.table h)

pub loop-k-init : goal.loop-k-init
loop-k-init c = filling_none _ _ _ _ (height_table_none _ _)

pub returns : goal.returns
returns c = answer (filling_done c.loop-k.invariant (omega arith))
