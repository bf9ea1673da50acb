-- The names met in a text: a list with the latest in front, and the pairs of their offset and length, with their index.
use Rattle.std.specs.Prelude.{ℕ, zero, suc, ◌+◌, ◌-◌, ◌*◌, ◌<◌, ◌≤◌, ◌≡◌, cond, List, [], ◌∷◌, length}
use Rattle.definitions.specs.Name.{Name, eq_name}
use Rattle.definitions.specs.Sheet.{name_limit, name_length_limit, pair_size, pair_end, marked}
use Rattle.output.specs.Numbers.{u16s}
use Rattle.definitions.specs.NameIndex.{index}
use Rattle.definitions.specs.Text.{occurs}
use Rattle.definitions.specs.TermText.{term_text_limit}
use Rattle.std.proofs.lemmas.List.Edits.{sets}

-- a name is added where it is new
unfoldable pub add_name : List Name → Name → List Name
add_name seen x = cond (occurs eq_name x seen) seen (x ∷ seen)

unfoldable pub added : List Name → List Name → List Name
added seen [] = seen
added seen (x ∷ xs) = added (add_name seen x) xs

-- the number of a name: how many are older
unfoldable pub number_in : List Name → Name → ℕ
number_in [] x = 0
number_in (y ∷ seen) x =
    let earlier = number_in seen x in
    cond (occurs eq_name x seen) earlier (length seen)

-- the names of the first so many pairs, the last in front
unfoldable pub first_names : List ℕ → List ℕ → ℕ → List Name
first_names pairs text zero = []
first_names pairs text (suc n) = marked pairs text n ∷ first_names pairs text n

-- a name may stand from one place to the other
pub record NamePlace (text : List ℕ) (at end : ℕ) : Type 0 where
  pub some : at < end
  pub few : end ≤ at + name_length_limit
  pub within : end ≤ length text

-- there is room for a pair of that number, and its numbers fit
pub record PairFits (pairs : List ℕ) (count at end : ℕ) : Type 0 where
  pub room : pair_size * (count + 1) ≤ length pairs
  pub some : at < end
  pub few : end ≤ at + name_length_limit
  pub near : end ≤ term_text_limit

-- the pair of a name stored as number `count`: offset and length
unfoldable pub with_pair : List ℕ → ℕ → ℕ → ℕ → List ℕ
with_pair pairs count at end = sets pairs (pair_size * count) (u16s (at ∷ (end - at) ∷ []))

-- a text is short enough to be read, each name lies in it, and the slots are the index of the names
pub record Table (text pairs slots : List ℕ) (count : ℕ) : Type 0 where
  pub short : length text ≤ term_text_limit
  pub room : length pairs ≡ pair_size * name_limit
  pub few : count ≤ name_limit
  pub ends : (j : ℕ) → j < count → pair_end pairs j ≤ length text
  pub indexed : slots ≡ index (marked pairs text) count
