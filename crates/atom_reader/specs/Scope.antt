-- The names that were met, and those that quantifiers bind.
use Rattle.std.specs.Prelude.{ℕ, ◌<◌, ◌≡◌, true, List, [], ◌∷◌, map, length}
use Rattle.definitions.specs.Name.{Name, eq_name}
use Rattle.definitions.specs.Sheet.{name_limit}
use Rattle.definitions.specs.Text.{occurs}
use Rattle.words.specs.Names.{added, number_in}
use Rattle.prop_parts.specs.Found.{bound_numbers}

-- each of the names was met
unfoldable pub Met : List Name → List Name → Type 0
Met seen [] = Prim.Unit {0}
Met seen (x ∷ xs) = (occurs eq_name x seen ≡ true) × Met seen xs

-- with these names there are too many
abbrev pub Crowded : List Name → List Name → Type 0
Crowded seen xs = name_limit < length (added seen xs)

-- so many quantifiers bind these names, the innermost in front; in memory stand their numbers
pub record Binds (names seen : List Name) (bound : List ℕ) (depth : ℕ) : Type 0 where
  pub met : Met seen names
  pub numbers : bound_numbers bound depth ≡ map (number_in seen) names
