-- What a reader of a pair of offset and length asks of it.
use Rattle.std.specs.Prelude.{ℕ, ◌+◌, ◌*◌, ◌≤◌, List, length}
use Rattle.definitions.specs.Sheet.{pair_size, pair_end}

-- the name of a number lies within the text: its pair is there, and ends within it
pub record NameWithin (pairs text : List ℕ) (name : ℕ) : Type 0 where
  pub present : pair_size * (name + 1) ≤ length pairs
  pub ends : pair_end pairs name ≤ length text
