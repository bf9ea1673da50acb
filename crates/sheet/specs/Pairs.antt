-- What refusals 4 and 6 have in common, and what they give to the refusals after them.
use Rattle.std.specs.Prelude.{ℕ, ◌*◌, ◌<◌, ◌≤◌, ◌≡◌, Bool, false, ◌||◌, List, length, ltb}
use Rattle.definitions.specs.Sheet.{pair_size, pair_offset, pair_length, pair_end, last_end}
use Rattle.definitions.specs.Admission.{misplaced, bad_code}

-- a pair starts before the last one's end, ends past so many bytes, or has a length outside 1 to the longest
unfoldable pub bad_pair : List ℕ → ℕ → ℕ → ℕ → Bool
bad_pair pairs bytes longest i =
    misplaced pairs bytes i || (ltb (pair_length pairs i) 1 || ltb longest (pair_length pairs i))

-- a pair that passes
pub record GoodPair (pairs : List ℕ) (bytes longest i : ℕ) : Type 0 where
  pub sorted : last_end pairs i ≤ pair_offset pairs i
  pub within : pair_end pairs i ≤ bytes
  pub some_byte : 1 ≤ pair_length pairs i
  pub not_too_long : pair_length pairs i ≤ longest

-- so many pairs are there, and each ends within the bytes
pub record HasPairs (pairs bytes : List ℕ) (count : ℕ) : Type 0 where
  pub present : pair_size * count ≤ length pairs
  pub ends : (i : ℕ) → i < count → pair_end pairs i ≤ length bytes

-- so many pairs are there, and each marks a proposition's code
pub record HasCodes (names : ℕ) (pairs code : List ℕ) (count : ℕ) : Type 0 where
  pub pairs_within : HasPairs pairs code count
  pub decoded : (i : ℕ) → i < count → bad_code names pairs code i ≡ false
