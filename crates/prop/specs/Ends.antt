-- The table of ends: at the start of a proposition's code and of the code of each of its parts, where that code ends.
use Rattle.std.specs.Prelude.{ℕ, ◌+◌, ◌*◌, ◌≤◌, ◌<◌, ◌≡◌, false, List, length, get_or}
use Rattle.definitions.specs.Prop.{Prop, True, False, Binary, Atom, Quantified}
use Rattle.definitions.specs.Code.{encode, decode}
use Rattle.definitions.specs.Sheet.{pair_size, pair_offset, pair_end, last_end, marked}
use Rattle.definitions.specs.Admission.{is_none}
use Rattle.prefix_code.specs.PropAt.{prop_at, Present}

-- the entry of the proposition itself
abbrev pub EndAt : List ℕ → ℕ → Prop ℕ → Type 0
EndAt ends at p = get_or ends at 0 ≡ at + length (encode p)

-- the entries of the proposition at `at` and of all its parts
unfoldable pub EndsOf : List ℕ → ℕ → Prop ℕ → Type 0
EndsOf ends at True = EndAt ends at True
EndsOf ends at False = EndAt ends at False
EndsOf ends at (Binary c p q) =
    EndAt ends at (Binary c p q) × EndsOf ends (at + 1) p × EndsOf ends (at + 1 + length (encode p)) q
EndsOf ends at (Atom a ps) = EndAt ends at (Atom a ps)
EndsOf ends at (Quantified q x t p) = EndAt ends at (Quantified q x t p) × EndsOf ends (at + 5) p

-- a proposition stands at `at`, and the table has its ends
pub record Known (names : ℕ) (code table : List ℕ) (at : ℕ) : Type 0 where
  pub present : Present names code at
  pub ends : EndsOf table at (prop_at names code at)

-- the table has an entry for each byte of the code, and a position fits an entry
pub record Room (code ends : List ℕ) : Type 0 where
  pub long : length code ≤ length ends
  pub short : length code ≤ 65535

-- what it takes to fill in the ends of a proposition
pub record Fillable (names : ℕ) (code : List ℕ) (at : ℕ) (ends : List ℕ) : Type 0 where
  pub present : Present names code at
  pub room : Room code ends

-- `after` is the table that was `before`, with the ends of `p` filled in and nothing else changed, and `r` is where p ends
pub record Filled (p : Prop ℕ) (before : List ℕ) (at : ℕ) (after : List ℕ) (r : ℕ) : Type 0 where
  pub end : r ≡ at + length (encode p)
  pub filled : EndsOf after at p
  pub earlier : (i : ℕ) → i < at → get_or after i 0 ≡ get_or before i 0
  pub later : (i : ℕ) → r ≤ i → get_or after i 0 ≡ get_or before i 0

-- the pairs of a sheet's propositions, of which refusals 6 and 7 find none bad: they are there, none starts before the last one's
-- end, and each ends within the code and marks exactly one proposition
pub record CodePairs (names : ℕ) (pairs code : List ℕ) (count : ℕ) : Type 0 where
  pub there : pair_size * count ≤ length pairs
  pub sorted : (i : ℕ) → i < count → last_end pairs i ≤ pair_offset pairs i
  pub within : (i : ℕ) → i < count → pair_end pairs i ≤ length code
  pub coded : (i : ℕ) → i < count → is_none (decode names (marked pairs code i)) ≡ false

-- what it takes to fill in the ends of them all
pub record AllFillable (names : ℕ) (pairs code : List ℕ) (count : ℕ) (ends : List ℕ) : Type 0 where
  pub marks : CodePairs names pairs code count
  pub room : Room code ends
