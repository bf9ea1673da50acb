-- The scope that hypotheses fill: under the number of each name the offset of its latest proposition.
use Rattle.std.specs.Prelude.{ℕ, ◌*◌, ◌≤◌, ◌<◌, ◌≡◌, false, List, [], ◌∷◌, length, get_or, set, Option, Some}
use Rattle.definitions.specs.Sheet.{pair_size, pair_offset}
use Rattle.prop_numbers.specs.Standing.{standing, name_space}
use Rattle.hypotheses.specs.Pairs.{out_of}

-- one hypothesis after another takes the entry of its name
unfoldable pub entered : List ℕ → List ℕ → List ℕ → List (Option ℕ) → List (Option ℕ)
entered numbers pairs [] scope = scope
entered numbers pairs (x ∷ []) scope = scope
entered numbers pairs (x ∷ p ∷ hs) scope = entered numbers pairs hs (set scope (get_or numbers x 0) (Some (pair_offset pairs p)))

-- each name has a number of the space, each proposition a pair, and its offset an entry
pub record Enterable (numbers pairs hs : List ℕ) (scope : List (Option ℕ)) : Type 0 where
  pub count : ℕ
  pub inside : out_of (length numbers) count hs ≡ false
  pub low : (x : ℕ) → x < length numbers → get_or numbers x 0 < name_space
  pub present : pair_size * count ≤ length pairs
  pub stand : (p : ℕ) → p < count → pair_offset pairs p < standing
  pub space : length scope ≡ name_space
