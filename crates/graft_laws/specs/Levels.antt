-- How many steps stand above a step of a tree: what the program adds to the donor's levels to try refusal 28.
use Rattle.std.specs.Prelude.{ℕ, ◌+◌, cond, List, [], ◌∷◌, eqb}
use Rattle.definitions.specs.Tree.{Step, ProofTree, over, Premisses, none, ◌and◌}

-- how often step k stands in a tree
module _ {N : Type 0} (k : ℕ) where
  unfoldable pub is_step : Step N → ℕ
  is_step z = cond (eqb z.number k) 1 0

  unfoldable mutual
    pub occurrences : ProofTree N → ℕ
    occurrences (over z ps) = is_step z + occurrences_among ps

    pub occurrences_among : Premisses N → ℕ
    occurrences_among none = 0
    occurrences_among (t and ps) = occurrences t + occurrences_among ps

-- how many steps stand above step k, the root included
module _ {N : Type 0} (k : ℕ) where
  unfoldable mutual
    pub above : ProofTree N → ℕ
    above (over z ps) = cond (eqb z.number k) 0 (1 + above_among ps)

    pub above_among : Premisses N → ℕ
    above_among none = 0
    above_among (t and ps) = cond (eqb (occurrences k t) 0) (above_among ps) (above t)

-- the same of the trees of a list, of which one has the step
module _ {N : Type 0} (k : ℕ) where
  unfoldable pub above_in : List (ProofTree N) → ℕ
  above_in [] = 0
  above_in (t ∷ ts) = cond (eqb (occurrences k t) 0) (above_in ts) (above k t)
