-- The trees that rows of steps finish, one after another: a row that is written elsewhere among steps finishes the same trees there.
use Prim.Native.Nat.{ℕ, zero, suc, ◌+◌, ◌≤◌, ◌<◌}
use mathlib.Core.Path.{◌≡◌, refl, sym, ap, ◌∙◌}
use mathlib.Core.List.{List, [], ◌∷◌, ◌++◌, map}
use native.Mathlib.Omega.{arith}
use lib.ListN.{length, drop}
use lib.Seq.{drop-append-le}
use Rattle.definitions.specs.Sheet.{premiss_count}
use Rattle.definitions.specs.Tree.{Step, ProofTree, over, Premisses, none, ◌and◌, last_trees, step_in, step_over, trees_before}

-- the trees finished before step k, of steps and their premiss counts
module _ (step : ℕ → Step ℕ) (count : ℕ → ℕ) where
  unfoldable pub stack : ℕ → List (ProofTree ℕ)
  stack zero = []
  stack (suc k) = over (step k) (last_trees (count k) (stack k) none) ∷ drop (count k) (stack k)

pub trees_stack : (names : ℕ) (pairs code records : List ℕ) (k : ℕ)
    → trees_before names pairs code records k ≡ stack (step_in names pairs code records) (premiss_count records) k
unfolding stack trees_before step_over
trees_stack names pairs code records zero = refl
trees_stack names pairs code records (suc k) = rw (trees_stack names pairs code records k)

-- a change of trees, and the same change of each of some premisses
pub record Change (N : Type 0) : Type 0 where
  pub tree : ProofTree ℕ → ProofTree N
  pub premisses : Premisses ℕ → Premisses N
  pub at_none : premisses none ≡ none
  pub at_and : (t : ProofTree ℕ) (ps : Premisses ℕ) → premisses (t and ps) ≡ tree t and premisses ps

module _ {N : Type 0} where
  -- the last n trees, as `last_trees` takes them
  unfoldable last_of : ℕ → List (ProofTree N) → Premisses N → Premisses N
  last_of zero ts ps = ps
  last_of (suc n) [] ps = ps
  last_of (suc n) (t ∷ ts) ps = last_of n ts (t and ps)

  last_first : (n : ℕ) (ts us : List (ProofTree N)) (ps : Premisses N) → n ≤ length ts → last_of n (ts ++ us) ps ≡ last_of n ts ps
  unfolding last_of
  last_first zero ts us ps h = refl
  last_first (suc n) [] us ps h = absurd (omega arith)
  last_first (suc n) (t ∷ ts) us ps h = last_first n ts us (t and ps) (omega arith)

module _ {N : Type 0} (g : Change N) where
  last_changed : (n : ℕ) (ts : List (ProofTree ℕ)) (ps : Premisses ℕ)
      → g.premisses (last_trees n ts ps) ≡ last_of n (map g.tree ts) (g.premisses ps)
  unfolding last_trees last_of
  last_changed zero ts ps = refl
  last_changed (suc n) [] ps = refl
  last_changed (suc n) (t ∷ ts) ps = rw (← (g.at_and t ps)) (last_changed n ts (t and ps))

  drop_changed : (n : ℕ) (ts : List (ProofTree ℕ)) → drop n (map g.tree ts) ≡ map g.tree (drop n ts)
  drop_changed zero ts = refl
  drop_changed (suc n) [] = refl
  drop_changed (suc n) (t ∷ ts) = drop_changed n ts

  length_changed : (ts : List (ProofTree ℕ)) → length (map g.tree ts) ≡ length ts
  length_changed [] = refl
  length_changed (t ∷ ts) = ap suc (length_changed ts)

-- Of two rows of steps, a change of the trees of each, and the trees below:
module _ {N : Type 0} (step step' : ℕ → Step ℕ) (count count' : ℕ → ℕ) (g g' : Change N) (below : List (ProofTree N)) where
  -- step j of the one is step m of the other, once both are changed
  unfoldable pub SameChanged : ℕ → ℕ → Type 0
  SameChanged j m = (ps qs : Premisses ℕ) → g.premisses ps ≡ g'.premisses qs → g.tree (over (step j) ps) ≡ g'.tree (over (step' m) qs)

  -- one step more, where it is the same step once changed, and finds its trees
  pub one_more : (m j : ℕ) → map g'.tree (stack step' count' m) ≡ map g.tree (stack step count j) ++ below
      → count' m ≡ count j → count j ≤ length (stack step count j) → SameChanged j m
      → map g'.tree (stack step' count' (suc m)) ≡ map g.tree (stack step count (suc j)) ++ below
  unfolding stack SameChanged
  one_more m j e same found changes =
      let ts = stack step count j in
      let us = stack step' count' m in
      let fits : count j ≤ length (map g.tree ts) = rw (length_changed g ts) found in
      let first : g.premisses (last_trees (count j) ts none) ≡ g'.premisses (last_trees (count j) us none) =
      last_changed g (count j) ts none
      ∙ (ap (last_of (count j) (map g.tree ts)) (g.at_none ∙ sym g'.at_none)
      ∙ (sym (last_first (count j) (map g.tree ts) below (g'.premisses none) fits)
      ∙ (ap (λ vs. last_of (count j) vs (g'.premisses none)) (sym e) ∙ sym (last_changed g' (count j) us none)))) in
      let rest : map g'.tree (drop (count j) us) ≡ map g.tree (drop (count j) ts) ++ below =
      sym (drop_changed g' (count j) us)
      ∙ (ap (drop (count j)) e
      ∙ (drop-append-le (count j) (map g.tree ts) below fits ∙ ap (λ vs. vs ++ below) (drop_changed g (count j) ts))) in
      rw (same, rest) (ap (λ t. t ∷ (map g.tree (drop (count j) ts) ++ below)) (sym (changes _ _ first)))

  -- a whole row of them, from steps m and j on
  pub row : (m j n : ℕ) → map g'.tree (stack step' count' m) ≡ map g.tree (stack step count j) ++ below
      → ((i : ℕ) → i < n → count' (m + i) ≡ count (j + i))
      → ((i : ℕ) → i < n → count (j + i) ≤ length (stack step count (j + i)))
      → ((i : ℕ) → i < n → SameChanged (j + i) (m + i))
      → map g'.tree (stack step' count' (m + n)) ≡ map g.tree (stack step count (j + n)) ++ below
  row m j zero e same found changes =
      let z : m + 0 ≡ m = omega arith in
      let z' : j + 0 ≡ j = omega arith in
      rw (z, z') e
  row m j (suc n) e same found changes =
      let z : m + suc n ≡ suc (m + n) = omega arith in
      let z' : j + suc n ≡ suc (j + n) = omega arith in
      rw (z, z')
      (one_more (m + n) (j + n)
      (row m j n e (λ i l. same i (omega arith)) (λ i l. found i (omega arith)) (λ i l. changes i (omega arith)))
      (same n (omega arith)) (found n (omega arith)) (changes n (omega arith)))
