-- The trees of the first steps have those steps only.
use Prim.Native.Nat.{ℕ, zero, suc, ◌≤◌, ◌<◌}
use mathlib.Core.List.{List, [], ◌∷◌}
use native.Mathlib.Omega.{arith}
use lib.ListN.{drop}
use Rattle.definitions.specs.Sheet.{premiss_count}
use Rattle.definitions.specs.Tree.{ProofTree, Premisses, none, ◌and◌, step_in, step_over, trees_before, tree_in, last_trees}
use Rattle.definitions.proofs.Refusals.{AllSteps, AllOfPremisses}

module _ (P : ℕ → Type 0) where
  -- it holds of each step of each tree
  unfoldable AllTrees : List (ProofTree ℕ) → Type 0
  AllTrees [] = Unit {0}
  AllTrees (t ∷ ts) = AllSteps P t × AllTrees ts

  all_last : (n : ℕ) (ts : List (ProofTree ℕ)) (ps : Premisses ℕ) → AllTrees ts → AllOfPremisses P ps → AllOfPremisses P (last_trees n ts ps)
  unfolding last_trees AllTrees AllSteps
  all_last zero ts ps h k = k
  all_last (suc n) [] ps h k = k
  all_last (suc n) (t ∷ ts) ps h k = all_last n ts (t and ps) h.1 (h.0, k)

  all_dropped : (n : ℕ) (ts : List (ProofTree ℕ)) → AllTrees ts → AllTrees (drop n ts)
  unfolding AllTrees
  all_dropped zero ts h = h
  all_dropped (suc n) [] h = h
  all_dropped (suc n) (t ∷ ts) h = all_dropped n ts h.1

  module _ (names : ℕ) (pairs code records : List ℕ) (n : ℕ) (holds : (k : ℕ) → k < n → P k) where
    trees_of_first : (k : ℕ) → k ≤ n → AllTrees (trees_before names pairs code records k)
    unfolding trees_before step_over step_in AllTrees AllSteps
    trees_of_first zero h = tt
    trees_of_first (suc k) h =
        let before = trees_of_first k (omega arith) in
        let count = premiss_count records k in (
          (holds k (omega arith), all_last count (trees_before names pairs code records k) none before tt),
          all_dropped count (trees_before names pairs code records k) before,
        )

    pub tree_of_first : (k : ℕ) → k < n → AllSteps P (tree_in names pairs code records k)
    unfolding tree_in step_over step_in AllSteps
    tree_of_first k h =
        (holds k h, all_last (premiss_count records k) (trees_before names pairs code records k) none (trees_of_first k (omega arith)) tt)
