-- A walk back over the last trees before step k, by the size table: past j trees it stands at step p. The premiss counts alone
-- decide it, so it is the same walk for all names, pairs and code.
use Prim.Native.Nat.{ℕ, ◌+◌, ◌-◌, ◌≤◌, ◌<◌}
use mathlib.Core.Path.{◌≡◌}
use mathlib.Core.Bool.{true, false}
use mathlib.Core.List.{List, []}
use native.Mathlib.Omega.{arith}
use lib.ListN.{length, get_or}
use borrow.Author.Tests.{lt-ltb, le-ltb}
use Rattle.std.specs.Prelude.{None, Some}
use Rattle.definitions.specs.Sheet.{premiss_count}
use Rattle.definitions.specs.Tree.{trees_before}
use Rattle.definitions.specs.Admission.{too_few_trees}
use Rattle.steps.specs.Tables.{TreeStart, SizeTable}
use Rattle.steps.proofs.Premisses.{Seam, seam_start, premiss, tree_steps, tree_left, no_tree_left}

pub record Walk (records : List ℕ) (k j p : ℕ) : Type 0 where
  pub seam : (names : ℕ) (pairs code : List ℕ) → Seam names pairs code records k j p
  pub passed : (names : ℕ) (pairs code : List ℕ) → j ≤ length (trees_before names pairs code records k)

pub walk_start : (records : List ℕ) (k : ℕ) → Walk records k 0 k
walk_start records k =
    record {
      seam = λ names pairs code. seam_start names pairs code records k;
      passed = λ names pairs code. omega arith;
    }

module _ {records : List ℕ} {k j p : ℕ} (w : Walk records k j p) where
  pub walk_within : p ≤ k
  walk_within = omega (arith, (w.seam 0 [] []).steps)

  -- one tree further, by its size in the table
  module _ (table : List ℕ) (t : SizeTable records k table) (h : 0 < p) where
    pub size_fits : get_or table (p - 1) 0 ≤ p
    size_fits =
        rw (t.sizes 0 [] [] (p - 1) (omega (arith, walk_within))) (premiss 0 [] [] records k j p (w.seam 0 [] []) h).fits

    next_seam : (names : ℕ) (pairs code : List ℕ) → Seam names pairs code records k (j + 1) (p - get_or table (p - 1) 0)
    next_seam names pairs code =
        rw (t.sizes names pairs code (p - 1) (omega (arith, walk_within)))
        (premiss names pairs code records k j p (w.seam names pairs code) h).next

    pub walk_on : Walk records k (j + 1) (p - get_or table (p - 1) 0)
    walk_on =
        record {
          seam = next_seam;
          passed = λ names pairs code. omega (arith, tree_left names pairs code records k j p (w.seam names pairs code) h);
        }

  -- at step 0 with premisses still to pass: the step finds too few trees
  pub walk_out : p ≡ 0 → j < premiss_count records k → TreeStart records k None
  unfolding TreeStart too_few_trees
  walk_out z h names pairs code =
      let n = no_tree_left names pairs code records k j (rw z at (w.seam names pairs code)) in
      lt-ltb (length (trees_before names pairs code records k)) (premiss_count records k) (omega arith)

  -- past all premisses: here the tree starts
  pub walk_done : j ≡ premiss_count records k → TreeStart records k (Some p)
  unfolding TreeStart too_few_trees
  walk_done e names pairs code =
      let n = w.passed names pairs code in (
        le-ltb (length (trees_before names pairs code records k)) (premiss_count records k) (omega arith),
        tree_steps names pairs code records k p (rw e at (w.seam names pairs code)),
      )

  -- a step that finds its premisses has those still to pass before p
  pub walk_in : too_few_trees 0 [] [] records k ≡ false → j < premiss_count records k → 0 < p
  unfolding TreeStart
  walk_in e h = let n : p ≡ 0 → ⊥ = λ z. clash (walk_out z h 0 [] []) in omega arith
    where
      clash : too_few_trees 0 [] [] records k ≡ true → ⊥
      clash f = grind arith
