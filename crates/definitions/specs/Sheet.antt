-- The sheet: its header, and where its parts lie. Document 01, "The sheet".
use Rattle.std.specs.Prelude.{ℕ, zero, suc, ◌+◌, ◌*◌, Bool, ◌||◌, List, get_or, take, drop, ltb, leb}
use Rattle.definitions.specs.Name.{Name}

-- the limits of a sheet
unfoldable pub text_limit : ℕ
text_limit = 8192

unfoldable pub name_limit : ℕ
name_limit = 512

unfoldable pub code_limit : ℕ
code_limit = 8192

unfoldable pub proposition_limit : ℕ
proposition_limit = 512

unfoldable pub step_limit : ℕ
step_limit = 1024

unfoldable pub name_length_limit : ℕ
name_length_limit = 32

unfoldable pub proposition_nesting_limit : ℕ
proposition_nesting_limit = 64

unfoldable pub tree_nesting_limit : ℕ
tree_nesting_limit = 256

unfoldable pub column_limit : ℕ
column_limit = 4095

-- the bytes of the header, of a pair of offset and length, and of a step
unfoldable pub header_size : ℕ
header_size = 12

unfoldable pub pair_size : ℕ
pair_size = 4

unfoldable pub step_size : ℕ
step_size = 20

-- document 01's number: a u16, low byte first, at an offset
unfoldable pub number_at : List ℕ → ℕ → ℕ
number_at s i = get_or s i 0 + 256 * get_or s (i + 1) 0

-- Of pairs of offset and length: the offset, the length and the end of the pair of a number, and the end of the one before,
-- which is 0 for the first.
module _ (pairs : List ℕ) where
  unfoldable pub pair_offset : ℕ → ℕ
  pair_offset i = number_at pairs (pair_size * i)

  unfoldable pub pair_length : ℕ → ℕ
  pair_length i = number_at pairs (pair_size * i + 2)

  unfoldable pub pair_end : ℕ → ℕ
  pair_end i = pair_offset i + pair_length i

  unfoldable pub last_end : ℕ → ℕ
  last_end zero = 0
  last_end (suc i) = pair_end i

  -- the bytes that the pair of a number marks: a name in the text, or a proposition's code
  unfoldable pub marked : List ℕ → ℕ → List ℕ
  marked bytes i = take (pair_length i) (drop (pair_offset i) bytes)

-- Of step records: a step's rule byte, its premiss count, and the numbers that follow, at offsets 2 to 18.
-- The last one is the grid column that the step was drawn in.
module _ (records : List ℕ) where
  unfoldable pub rule_byte : ℕ → ℕ
  rule_byte k = get_or records (step_size * k) 0

  unfoldable pub premiss_count : ℕ → ℕ
  premiss_count k = get_or records (step_size * k + 1) 0

  unfoldable pub step_number : ℕ → ℕ → ℕ
  step_number k at = number_at records (step_size * k + at)

  unfoldable pub column : ℕ → ℕ
  column k = step_number k 18

-- Of a sheet's bytes:
module _ (s : List ℕ) where
  -- the six header numbers: T, N, C, P, S and the goal
  unfoldable pub text_length : ℕ
  text_length = number_at s 0

  unfoldable pub names : ℕ
  names = number_at s 2

  unfoldable pub code_length : ℕ
  code_length = number_at s 4

  unfoldable pub propositions : ℕ
  propositions = number_at s 6

  unfoldable pub steps : ℕ
  steps = number_at s 8

  unfoldable pub goal : ℕ
  goal = number_at s 10

  -- a header number lies outside its range
  unfoldable pub header_out_of_range : Bool
  header_out_of_range =
      ltb text_limit text_length || ltb name_limit names || ltb code_limit code_length
      || (ltb propositions 1 || ltb proposition_limit propositions)
      || (ltb steps 1 || ltb step_limit steps)
      || leb propositions goal

  -- where each part begins, and where the last one ends: N pairs, P pairs, S steps, T text bytes, C code bytes
  unfoldable pub name_pairs_start : ℕ
  name_pairs_start = header_size

  unfoldable pub proposition_pairs_start : ℕ
  proposition_pairs_start = name_pairs_start + pair_size * names

  unfoldable pub steps_start : ℕ
  steps_start = proposition_pairs_start + pair_size * propositions

  unfoldable pub text_start : ℕ
  text_start = steps_start + step_size * steps

  unfoldable pub code_start : ℕ
  code_start = text_start + text_length

  unfoldable pub sheet_length : ℕ
  sheet_length = code_start + code_length

  -- the parts
  unfoldable pub name_pairs : List ℕ
  name_pairs = take (pair_size * names) (drop name_pairs_start s)

  unfoldable pub proposition_pairs : List ℕ
  proposition_pairs = take (pair_size * propositions) (drop proposition_pairs_start s)

  unfoldable pub step_records : List ℕ
  step_records = take (step_size * steps) (drop steps_start s)

  unfoldable pub text_bytes : List ℕ
  text_bytes = take text_length (drop text_start s)

  unfoldable pub code_bytes : List ℕ
  code_bytes = take code_length (drop code_start s)

  -- the bytes of the name of a number
  unfoldable pub name_of : ℕ → Name
  name_of i = marked name_pairs text_bytes i
