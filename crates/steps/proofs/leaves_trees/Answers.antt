-- The last tree has all the steps just where no tree is left below it.
use Prim.Native.Nat.{ℕ, zero, suc, ◌+◌, ◌-◌}
use mathlib.Core.Path.{◌≡◌, ap, sym, ◌∙◌}
use mathlib.Core.List.{List}
use native.Mathlib.Omega.{arith}
use lib.ListN.{length}
use lib.Dec.{ltb}
use borrow.Author.Tests.{lt-ltb, le-ltb}
use Rattle.definitions.specs.Sheet.{premiss_count}
use Rattle.definitions.specs.Tree.{trees_before, tree_in}
use Rattle.definitions.specs.Admission.{trees_left}
use Rattle.steps.specs.Size.{size}
use Rattle.steps.proofs.Premisses.{Seam, seam, tree_steps, below_tree}
use Rattle.steps.proofs.leaves_trees.Goals as goal

module _ (names : ℕ) (pairs code records : List ℕ) where
  -- trees are left below a tree that starts past step 0
  left-from : (k p : ℕ) → Seam names pairs code records k (premiss_count records k) p
      → ltb (size (tree_in names pairs code records k)) (k + 1) ≡ trees_left names pairs code records (k + 1)
  unfolding trees_left trees_before
  left-from k zero s =
      let n = tree_steps names pairs code records k 0 s in
      let l = ap length (below_tree names pairs code records k 0 s) in
      le-ltb (size (tree_in names pairs code records k)) (k + 1) (omega arith)
      ∙ sym (le-ltb 1 (length (trees_before names pairs code records (k + 1))) (omega arith))
  left-from k (suc p) s =
      let n = tree_steps names pairs code records k (suc p) s in
      let l = ap length (below_tree names pairs code records k (suc p) s) in
      lt-ltb (size (tree_in names pairs code records k)) (k + 1) (omega arith)
      ∙ sym (lt-ltb 1 (length (trees_before names pairs code records (k + 1))) (omega arith))

  left_below : (k : ℕ) → ltb (size (tree_in names pairs code records k)) (k + 1) ≡ trees_left names pairs code records (k + 1)
  left_below k = let (p, s) = seam names pairs code records k (premiss_count records k) in left-from k p s

pub returns : goal.returns
returns c names pairs code =
    let last = c.args.steps - 1 in
    let e : last + 1 ≡ c.args.steps = omega arith in
    rw (c.from.ensures, c.requires.2.sizes names pairs code last (omega arith))
    (rw e at (left_below names pairs code c.args.step_records.now last))
