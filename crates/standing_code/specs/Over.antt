-- Propositions over other name numbers, each where it stood.
use Rattle.std.specs.Prelude.{ℕ, ◌+◌, ◌*◌, ◌≤◌, ◌<◌, ◌≡◌, List, length, take, drop, get_or}
use Rattle.definitions.specs.Prop.{Prop, rename_prop}
use Rattle.definitions.specs.Code.{encode, Codable}
use Rattle.definitions.specs.Sheet.{pair_size, marked, pair_offset, pair_length, pair_end}
use Rattle.renumbering.specs.Renumbered.{mapped, Whole}

-- so many bytes of code a sheet has at most
abbrev pub code_space : ℕ
code_space = 8192

-- each of so many pairs marks a proposition, behind those before it and within the code; the map has a number for each name, and there
-- is room for two bytes more than the code
pub record Codes (names : ℕ) (pairs code : List ℕ) (count : ℕ) (numbers out : List ℕ) : Type 0 where
  pub present : pair_size * count ≤ length pairs
  pub whole : (k : ℕ) → k < count → Whole names (marked pairs code k)
  pub ends : (k : ℕ) → k < count → pair_end pairs k ≤ length code
  pub sorted : (i k : ℕ) → i < k → k < count → pair_end pairs i ≤ pair_offset pairs k
  pub low : length code ≤ code_space
  pub mapped_all : names ≤ length numbers
  pub room : length out ≡ code_space + 2

-- each stands over other names where it stood, and ⊤ and ⊥ behind all code
pub record CodeStands (names : ℕ) (pairs code : List ℕ) (count : ℕ) (numbers after : List ℕ) : Type 0 where
  pub long : length after ≡ code_space + 2
  pub over : (k : ℕ) → k < count → (p : Prop ℕ) → Codable names p → marked pairs code k ≡ encode p
      → take (pair_length pairs k) (drop (pair_offset pairs k) after) ≡ encode (rename_prop (mapped numbers) p)
  pub top : get_or after code_space 0 ≡ 0
  pub bottom : get_or after (code_space + 1) 0 ≡ 1
