-- The last trees of a list, taken one by one: each stands in front of those that are newer.
use Prim.Native.Nat.{ℕ, zero, suc, ◌+◌, ◌≤◌}
use mathlib.Core.Path.{◌≡◌, refl}
use mathlib.Core.List.{List, [], ◌∷◌}
use native.Mathlib.Omega.{arith}
use lib.ListN.{length, drop}
use Rattle.definitions.specs.Tree.{ProofTree, Premisses, ◌and◌, count, last_trees}

-- the next tree of the list stands in front of the last n
pub one_more : (n : ℕ) {t : ProofTree ℕ} (ts us : List (ProofTree ℕ)) (ps : Premisses ℕ)
    → drop n ts ≡ t ∷ us → last_trees (suc n) ts ps ≡ t and last_trees n ts ps
unfolding last_trees
one_more zero [] us ps e = absurd (grind arith)
one_more zero (s ∷ ts) us ps e = cc
one_more (suc n) [] us ps e = absurd (grind arith)
one_more (suc n) (s ∷ ts) us ps e = one_more n ts us (s and ps) e

-- past its end there is none
pub no_more : (n : ℕ) (ts : List (ProofTree ℕ)) (ps : Premisses ℕ) → drop n ts ≡ [] → last_trees (suc n) ts ps ≡ last_trees n ts ps
unfolding last_trees
no_more zero [] ps e = refl
no_more zero (t ∷ ts) ps e = absurd (grind arith)
no_more (suc n) [] ps e = refl
no_more (suc n) (t ∷ ts) ps e = no_more n ts (t and ps) e

-- a list that has n trees gives n
pub count_last : (n : ℕ) (ts : List (ProofTree ℕ)) (ps : Premisses ℕ) → n ≤ length ts → count (last_trees n ts ps) ≡ n + count ps
unfolding last_trees count
count_last zero ts ps h = omega arith
count_last (suc n) [] ps h = absurd (omega arith)
count_last (suc n) (t ∷ ts) ps h = omega (arith, count_last n ts (t and ps) (omega arith))
