-- Which step finishes a premiss.
use Rattle.std.specs.Prelude.{ℕ, ◌+◌, ◌-◌, ◌<◌, ◌≡◌, List}
use Rattle.definitions.specs.Sheet.{premiss_count}
use Rattle.definitions.specs.Tree.{Premisses, none, ◌and◌, last_trees, trees_before, tree_in}

-- the premisses of step k from a position on, earliest first: so many of the last trees before the step as are left
unfoldable pub premisses_from : ℕ → List ℕ → List ℕ → List ℕ → ℕ → ℕ → Premisses ℕ
premisses_from names pairs code records k position =
    last_trees (premiss_count records k - position) (trees_before names pairs code records k) none

-- step r finishes the premiss of a position
pub record PremissStep (records : List ℕ) (k position r : ℕ) : Type 0 where
  pub earlier : r < k
  pub tree : (names : ℕ) (pairs code : List ℕ)
      → premisses_from names pairs code records k position
      ≡ (tree_in names pairs code records r and premisses_from names pairs code records k (position + 1))
