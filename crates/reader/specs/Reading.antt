-- What is read at a position of a sheet. Document 01, "The sheet".
use Rattle.std.specs.Prelude.{ℕ, ◌+◌, ◌-◌, ◌*◌, cond, List, length, ltb, leb, Option, Some, None}
use Rattle.definitions.specs.Sheet.{number_at}

-- how many bytes are left at a position
abbrev pub bytes_after : List ℕ → ℕ → ℕ
bytes_after s at = length s - at

-- the number at a position, if two bytes are left
unfoldable pub number_after : List ℕ → ℕ → Option ℕ
number_after s at = cond (ltb (bytes_after s at) 2) None (Some (number_at s at))

-- the position so many numbers on, or the end where fewer are left
unfoldable pub position_after : List ℕ → ℕ → ℕ → ℕ
position_after s at numbers = cond (leb (2 * numbers) (bytes_after s at)) (at + 2 * numbers) (length s)
