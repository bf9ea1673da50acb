-- The missing names as they are met: those among the donor's below a number.
use Rattle.std.specs.Prelude.{ℕ, ◌+◌, ◌<◌, ◌≡◌, List, [], ◌∷◌, ◌++◌, map, length}
use Rattle.definitions.specs.Name.{Name, eq_name}
use Rattle.definitions.specs.Text.{firsts_after}
use Rattle.definitions.specs.Sheet.{names, name_of}
use Rattle.definitions.specs.Graft.{up_to, names_of, renumbered}

unfoldable pub missing_below : List ℕ → List ℕ → ℕ → List Name
missing_below h d n = firsts_after eq_name (names_of h) (map (name_of d) (up_to n))

-- a donor name has a number that was given before, or it is new and has the next
pub data Numbering (h d : List ℕ) (n : ℕ) : Type 0 where
  given_before : renumbered h d n < names h + length (missing_below h d n) → missing_below h d (n + 1) ≡ missing_below h d n → Numbering h d n
  given_next : renumbered h d n ≡ names h + length (missing_below h d n) → missing_below h d (n + 1) ≡ missing_below h d n ++ (name_of d n ∷ [])
      → Numbering h d n
