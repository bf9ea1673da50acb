-- The steps above a step, one step after another: a step that takes its tree as a premiss is one more above it, any other is none.
use Prim.Native.Nat.{ℕ, zero, suc, ◌+◌, ◌≤◌, ◌<◌}
use mathlib.Core.Path.{◌≡◌, refl, sym, ap, ◌∙◌}
use mathlib.Core.Bool.{Bool, true, false}
use mathlib.Core.List.{List, [], ◌∷◌}
use native.Mathlib.Omega.{arith}
use lib.ListN.{drop}
use lib.Dec.{eqb}
use borrow.Author.Tests.{eqb-true, eqb-false, eq-eqb, ne_eqb}
use Rattle.definitions.specs.Tree.{Step, ProofTree, over, Premisses, none, ◌and◌, last_trees}
use Rattle.graft_laws.specs.Levels.{is_step, occurrences, occurrences_among, above, above_among, above_in}
use Rattle.graft_laws.proofs.Stack.{stack}
use Rattle.graft_laws.proofs.MergedTrees.{occurrences_in, not_yet, once}

module _ (k : ℕ) where
  -- fewer trees have it no more often
  fewer : (n : ℕ) (ts : List (ProofTree ℕ)) → occurrences_in k (drop n ts) ≤ occurrences_in k ts
  unfolding occurrences_in
  fewer zero ts = omega arith
  fewer (suc n) [] = omega arith
  fewer (suc n) (t ∷ ts) = omega (arith, fewer n ts)

  -- a tree without the step is passed over
  passed : (t : ProofTree ℕ) (ts : List (ProofTree ℕ)) → occurrences k t ≡ 0 → above_in k (t ∷ ts) ≡ above_in k ts
  unfolding above_in
  passed t ts e = rw (eq-eqb (occurrences k t) 0 e)

  passed_among : (t : ProofTree ℕ) (ps : Premisses ℕ) → occurrences k t ≡ 0 → above_among k (t and ps) ≡ above_among k ps
  unfolding above
  passed_among t ps e = rw (eq-eqb (occurrences k t) 0 e)

  here : (t : ProofTree ℕ) (ts : List (ProofTree ℕ)) → (occurrences k t ≡ 0 → ⊥) → above_in k (t ∷ ts) ≡ above k t
  unfolding above_in
  here t ts e = rw (ne_eqb (occurrences k t) 0 e)

  here_among : (t : ProofTree ℕ) (ps : Premisses ℕ) → (occurrences k t ≡ 0 → ⊥) → above_among k (t and ps) ≡ above k t
  unfolding above
  here_among t ps e = rw (ne_eqb (occurrences k t) 0 e)

  -- trees that are taken off without the step change nothing
  kept : (n : ℕ) (ts : List (ProofTree ℕ)) → occurrences_in k (drop n ts) ≡ occurrences_in k ts → above_in k (drop n ts) ≡ above_in k ts
  unfolding occurrences_in
  kept zero ts e = refl
  kept (suc n) [] e = refl
  kept (suc n) (t ∷ ts) e =
      kept n ts (omega (arith, fewer n ts)) ∙ sym (passed t ts (omega (arith, fewer n ts)))

  all_passed : (n : ℕ) (ts : List (ProofTree ℕ)) (ps : Premisses ℕ) → occurrences_in k ts ≡ 0
      → above_among k (last_trees n ts ps) ≡ above_among k ps
  unfolding occurrences_in last_trees
  all_passed zero ts ps e = refl
  all_passed (suc n) [] ps e = refl
  all_passed (suc n) (t ∷ ts) ps e = all_passed n ts (t and ps) (omega arith) ∙ passed_among t ps (omega arith)

  -- among the premisses that are taken stands the one that has it
  taken : (n : ℕ) (ts : List (ProofTree ℕ)) (ps : Premisses ℕ) → occurrences_in k ts ≡ 1 → occurrences_in k (drop n ts) ≡ 0
      → above_among k (last_trees n ts ps) ≡ above_in k ts
  unfolding occurrences_in last_trees
  taken zero ts ps e f = absurd (omega arith)
  taken (suc n) [] ps e f = absurd (omega arith)
  taken (suc n) (t ∷ ts) ps e f = go (eqb (occurrences k t) 0) refl (λ g. taken n ts (t and ps) g f)
    where
      go : (b : Bool) → eqb (occurrences k t) 0 ≡ b
          → (occurrences_in k ts ≡ 1 → above_among k (last_trees n ts (t and ps)) ≡ above_in k ts)
          → above_among k (last_trees n ts (t and ps)) ≡ above_in k (t ∷ ts)
      go true is again = let z = eqb-true (occurrences k t) 0 is in again (omega arith) ∙ sym (passed t ts z)
      go false is again =
          let z : occurrences k t ≡ 0 → ⊥ = eqb-false (occurrences k t) 0 is in
          all_passed n ts (t and ps) (omega arith) ∙ (here_among t ps z ∙ sym (here t ts z))

module _ (step : ℕ → Step ℕ) (count : ℕ → ℕ) (numbers : (i : ℕ) → (step i).number ≡ i) (k : ℕ) where
  abbrev tree : ℕ → ProofTree ℕ
  tree j = over (step j) (last_trees (count j) (stack step count j) none)

  -- no step stands above a step that comes last
  pub above_last : above_in k (stack step count (suc k)) ≡ 0
  unfolding stack occurrences is_step above
  above_last =
      let z : eqb (step k).number k ≡ true = eq-eqb (step k).number k (numbers k) in
      let some : occurrences k (tree k) ≡ 0 → ⊥ = λ e. let f : 1 + occurrences_among k (last_trees (count k) (stack step count k) none) ≡ 0 = rw z at e in omega arith in
      here k (tree k) (drop (count k) (stack step count k)) some ∙ rw z

  module _ (j p : ℕ) (later : k < j) (below : drop (count j) (stack step count j) ≡ stack step count p) where
    -- a step whose premisses all come after it
    pub above_passed : k < p → above_in k (stack step count (suc j)) ≡ above_in k (stack step count j)
    unfolding stack occurrences_in
    above_passed l =
        let whole : occurrences k (tree j) + occurrences_in k (drop (count j) (stack step count j)) ≡ 1 = once step count numbers k (suc j) (omega arith) in
        let rest : occurrences_in k (drop (count j) (stack step count j)) ≡ 1 = rw below (once step count numbers k p l) in
        passed k (tree j) (drop (count j) (stack step count j)) (omega arith)
        ∙ kept k (count j) (stack step count j) (rest ∙ sym (once step count numbers k j later))

    -- one whose premisses reach it
    pub above_taken : p ≤ k → above_in k (stack step count (suc j)) ≡ above_in k (stack step count j) + 1
    unfolding stack occurrences_in above
    above_taken l =
        let whole : occurrences k (tree j) + occurrences_in k (drop (count j) (stack step count j)) ≡ 1 = once step count numbers k (suc j) (omega arith) in
        let rest : occurrences_in k (drop (count j) (stack step count j)) ≡ 0 = rw below (not_yet step count numbers k p l) in
        let some : occurrences k (tree j) ≡ 0 → ⊥ = λ e. omega arith in
        let other : eqb (step j).number k ≡ false = ne_eqb (step j).number k (λ (q : (step j).number ≡ k). omega (arith, numbers j)) in
        let one : above k (tree j) ≡ 1 + above_among k (last_trees (count j) (stack step count j) none) = rw other in
        here k (tree j) (drop (count j) (stack step count j)) some
        ∙ omega (arith, one, taken k (count j) (stack step count j) none (once step count numbers k j later) rest)

  -- where one tree is left, it is the one
  pub above_root : (n : ℕ) (root : ProofTree ℕ) → k < n → stack step count n ≡ root ∷ [] → above_in k (stack step count n) ≡ above k root
  unfolding occurrences_in
  above_root n root l e =
      let one : occurrences k root + 0 ≡ 1 = ap (occurrences_in k) (sym e) ∙ once step count numbers k n l in
      ap (above_in k) e ∙ here k root [] (λ z. omega arith)
