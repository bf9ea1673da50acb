-- Where a step's premisses stand among the steps. The seam: j trees down from the list before step k stands the list before
-- step p, where p plus the sizes of those trees is k. So the next tree down is that of step p − 1.
use Prim.Native.Nat.{ℕ, zero, suc, ◌+◌, ◌-◌, ◌≤◌, ◌<◌}
use mathlib.Core.Path.{◌≡◌, refl, ap, ◌∙◌}
use mathlib.Core.List.{List, ◌∷◌}
use native.Mathlib.Omega.{arith}
use native.Mathlib.Numerals.{add-one}
use lib.ListN.{length, drop, length-drop}
use lib.Seq.{drop-drop}
use Rattle.definitions.specs.Sheet.{premiss_count}
use Rattle.definitions.specs.Tree.{ProofTree, Premisses, none, ◌and◌, count, last_trees, step_over, trees_before, tree_in}
use Rattle.steps.specs.Size.{size, sizes}
use Rattle.steps.proofs.LastTrees.{one_more, no_more, count_last}

drop_more : {A : Type 0} (l r : List A) (j : ℕ) → drop j l ≡ r → drop (suc j) l ≡ drop 1 r
drop_more l r j e = rw (← e, drop-drop, add-one)

module _ (names : ℕ) (pairs code records : List ℕ) where
  abbrev trees : ℕ → List (ProofTree ℕ)
  trees k = trees_before names pairs code records k

  abbrev tree : ℕ → ProofTree ℕ
  tree k = tree_in names pairs code records k

  -- the last j trees before step k
  abbrev last : ℕ → ℕ → Premisses ℕ
  last k j = last_trees j (trees k) none

  pub record Seam (k j p : ℕ) : Type 0 where
    pub list : drop j (trees k) ≡ trees p
    pub steps : p + sizes (last k j) ≡ k

  size_tree : (k : ℕ) → size (tree k) ≡ 1 + sizes (last k (premiss_count records k))
  unfolding size tree_in step_over
  size_tree k = refl

  pub seam_start : (k : ℕ) → Seam k 0 k
  unfolding last_trees sizes
  seam_start k = record { list = refl; steps = omega arith }

  next_tree : (k j q : ℕ) → Seam k j (suc q) → last k (suc j) ≡ tree q and last k j
  unfolding trees_before tree_in
  next_tree k j q s = one_more j (trees k) _ none s.list

  next_sizes : (k j q : ℕ) → Seam k j (suc q) → sizes (last k (suc j)) ≡ size (tree q) + sizes (last k j)
  unfolding sizes
  next_sizes k j q s = ap sizes (next_tree k j q s)

  -- one tree further down, past the premisses of its step
  next_seam : (k j q p : ℕ) → Seam k j (suc q) → Seam q (premiss_count records q) p → Seam k (suc j) p
  unfolding trees_before
  next_seam k j q p s t =
      record {
        list = drop_more _ _ j s.list ∙ t.list;
        steps = omega (arith, s.steps, t.steps, next_sizes k j q s, size_tree q);
      }

  -- before step 0 there is no tree
  last_seam : (k j : ℕ) → Seam k j 0 → Seam k (suc j) 0
  unfolding trees_before
  last_seam k j s =
      record {
        list = drop_more _ _ j s.list;
        steps = omega (arith, s.steps, ap sizes (no_more j (trees k) none s.list));
      }

  seam_more : (k j p : ℕ) → Seam k j p → ((q i : ℕ) → q < k → (p : ℕ) × Seam q i p) → (p : ℕ) × Seam k (suc j) p
  seam_more k j zero s lower = (0, last_seam k j s)
  seam_more k j (suc q) s lower =
      let (p, t) = lower q (premiss_count records q) (omega (arith, s.steps)) in (p, next_seam k j q p s t)

  seam_at : (k : ℕ) → ((q i : ℕ) → q < k → (p : ℕ) × Seam q i p) → (j : ℕ) → (p : ℕ) × Seam k j p
  seam_at k lower zero = (k, seam_start k)
  seam_at k lower (suc j) = let (p, s) = seam_at k lower j in seam_more k j p s lower

  seam_below : (n k j : ℕ) → k < n → (p : ℕ) × Seam k j p
  seam_below zero k j h = absurd (omega arith)
  seam_below (suc n) k j h = seam_at k (λ q i l. seam_below n q i (omega arith)) j

  -- the seam law
  pub seam : (k j : ℕ) → (p : ℕ) × Seam k j p
  seam k j = seam_below (suc k) k j (omega arith)

  -- the tree of step k has the steps from p to k, where the list below its premisses is that before step p
  pub tree_steps : (k p : ℕ) → Seam k (premiss_count records k) p → p + size (tree k) ≡ k + 1
  tree_steps k p s = omega (arith, s.steps, size_tree k)

  pub below_tree : (k p : ℕ) → Seam k (premiss_count records k) p → trees (k + 1) ≡ tree k ∷ trees p
  unfolding trees_before tree_in
  below_tree k p s = rw (add-one, s.list)

  -- the j-th premiss of step k, counted from the last back, is the tree of step p − 1
  pub record Premiss (k j p : ℕ) : Type 0 where
    pub is_tree : last k (j + 1) ≡ tree (p - 1) and last k j
    pub fits : size (tree (p - 1)) ≤ p
    pub next : Seam k (j + 1) (p - size (tree (p - 1)))

  premiss_suc : (k j q : ℕ) → Seam k j (suc q) → Premiss k j (suc q)
  premiss_suc k j q s =
      let (p, t) = seam q (premiss_count records q) in
      let r = tree_steps q p t in
      let e : suc q - 1 ≡ q = omega arith in
      let z : p ≡ suc q - size (tree q) = omega arith in
      record {
        is_tree = rw (add-one, e) (next_tree k j q s);
        fits = rw e (omega arith);
        next = rw (add-one, e, ← z) (next_seam k j q p s t);
      }

  pub premiss : (k j p : ℕ) → Seam k j p → 0 < p → Premiss k j p
  premiss k j zero s h = absurd (omega arith)
  premiss k j (suc q) s h = premiss_suc k j q s

  -- trees are left just where steps are left
  pub tree_left : (k j p : ℕ) → Seam k j p → 0 < p → j < length (trees k)
  unfolding trees_before
  tree_left k j zero s h = absurd (omega arith)
  tree_left k j (suc q) s h = omega (arith, ap length s.list, length-drop j (trees k))

  pub no_tree_left : (k j : ℕ) → Seam k j 0 → length (trees k) ≤ j
  unfolding trees_before
  no_tree_left k j s = omega (arith, ap length s.list, length-drop j (trees k))

  -- a step that finds its premisses has as many as it says
  pub premisses_counted : (k : ℕ) → premiss_count records k ≤ length (trees k)
      → count (last k (premiss_count records k)) ≡ premiss_count records k
  unfolding count
  premisses_counted k h = omega (arith, count_last (premiss_count records k) (trees k) none h)
