-- Names as their pairs mark them in the text: when two are the same, and what a search among them asks of the pairs.
use Rattle.std.specs.Prelude.{ℕ, ◌+◌, ◌*◌, ◌≤◌, Bool, List, length}
use Rattle.definitions.specs.Name.{compare_name, is_equal}
use Rattle.definitions.specs.Sheet.{pair_size, pair_end, marked}

-- the comparison says that name j equals name i
abbrev pub same_bytes : List ℕ → List ℕ → ℕ → ℕ → Bool
same_bytes pairs text i j = is_equal (compare_name (marked pairs text j) (marked pairs text i))

-- the pairs of the numbers 0 to i are there, and each ends within the text
pub record PairsWithin (pairs text : List ℕ) (i : ℕ) : Type 0 where
  pub present : pair_size * (i + 1) ≤ length pairs
  pub ends : (j : ℕ) → j ≤ i → pair_end pairs j ≤ length text
