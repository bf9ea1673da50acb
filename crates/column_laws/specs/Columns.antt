-- Ticket 6: sheets that differ only in columns within range.
use Rattle.std.specs.Prelude.{ℕ, ◌-◌, ◌%◌, ◌≤◌, ◌<◌, ◌≡◌, List, length, get_or}
use Rattle.definitions.specs.Sheet.{step_size, column_limit, column, steps, steps_start, text_start, step_records}

-- a byte of a step's column: one of the last two of a record
pub record ColumnByte (s : List ℕ) (i : ℕ) : Type 0 where
  pub after : steps_start s ≤ i
  pub before : i < text_start s
  pub last : 18 ≤ (i - steps_start s) % step_size

-- the same bytes but for columns, which lie within range in both
pub record SameButColumns (s s' : List ℕ) : Type 0 where
  pub size : length s ≡ length s'
  pub bytes : (i : ℕ) → (ColumnByte s i → ⊥) → get_or s i 0 ≡ get_or s' i 0
  pub columns : (k : ℕ) → k < steps s → column (step_records s) k ≤ column_limit
  pub columns' : (k : ℕ) → k < steps s → column (step_records s') k ≤ column_limit
