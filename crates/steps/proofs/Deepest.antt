-- The nesting of the deepest of the last j trees before step k, found on a walk back over them.
use Prim.Native.Nat.{ℕ, ◌+◌, ◌-◌, ◌≤◌, ◌<◌, max}
use mathlib.Core.Path.{◌≡◌, refl, sym, ap, ap₂, ◌∙◌}
use mathlib.Core.List.{List, []}
use native.Mathlib.Omega.{arith}
use lib.ListN.{get_or}
use Rattle.definitions.specs.Sheet.{premiss_count}
use Rattle.definitions.specs.Tree.{ProofTree, over, Premisses, none, ◌and◌, height, heights, last_trees, step_over, trees_before, tree_in}
use Rattle.steps.specs.Size.{size, sizes}
use Rattle.steps.specs.Tables.{HeightTable}
use Rattle.steps.proofs.Premisses.{premiss}
use Rattle.steps.proofs.Walk.{Walk, walk_within}

-- a tree nests at most as deep as it has steps
mutual
  unfolding height size

  height_size : (t : ProofTree ℕ) → height t ≤ size t
  height_size (over z ps) = omega (arith, heights_sizes ps)

  heights_sizes : (ps : Premisses ℕ) → heights ps ≤ sizes ps
  heights_sizes none = omega arith
  heights_sizes (t and ps) = omega (arith, height_size t, heights_sizes ps)

abbrev pub Deepest : List ℕ → ℕ → ℕ → ℕ → Type 0
Deepest records k j h =
    (names : ℕ) (pairs code : List ℕ) → h ≡ heights (last_trees j (trees_before names pairs code records k) none)

module _ (records : List ℕ) (k : ℕ) where
  pub deepest_none : Deepest records k 0 0
  unfolding last_trees heights
  deepest_none names pairs code = refl

  pub deepest_more : (table : List ℕ) (j p h : ℕ) → HeightTable records k table → Walk records k j p → 0 < p
      → Deepest records k j h → Deepest records k (j + 1) (max (get_or table (p - 1) 0) h)
  unfolding heights
  deepest_more table j p h t w n d names pairs code =
      ap₂ max (t.heights names pairs code (p - 1) (omega (arith, walk_within w))) (d names pairs code)
      ∙ sym (ap heights (premiss names pairs code records k j p (w.seam names pairs code) n).is_tree)

  -- the trees before step k nest at most k deep
  pub deepest_within : (j p h : ℕ) → Walk records k j p → Deepest records k j h → h ≤ k
  deepest_within j p h w d =
      let last = last_trees j (trees_before 0 [] [] records k) none in
      omega (arith, d 0 [] [], (w.seam 0 [] []).steps, heights_sizes last)

  -- a tree nests one deeper than the deepest of its premisses
  pub deepest_all : (j h : ℕ) → j ≡ premiss_count records k → Deepest records k j h
      → (names : ℕ) (pairs code : List ℕ) → h + 1 ≡ height (tree_in names pairs code records k)
  unfolding height tree_in step_over
  deepest_all j h e d names pairs code = omega (arith, (rw e at (d names pairs code)))
