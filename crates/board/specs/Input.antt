-- How much of its input the board reads: one byte more than the longest sheet.
use Rattle.std.specs.Prelude.{ℕ, ◌+◌, ◌*◌, List, take}
use Rattle.definitions.specs.Sheet.{header_size, pair_size, name_limit, proposition_limit, step_size, step_limit, text_limit, code_limit}

unfoldable pub longest_sheet : ℕ
longest_sheet = header_size + pair_size * name_limit + pair_size * proposition_limit + step_size * step_limit + text_limit + code_limit

unfoldable pub input_room : ℕ
input_room = longest_sheet + 1

-- what comes of an input
unfoldable pub read_part : List ℕ → List ℕ
read_part input = take input_room input
