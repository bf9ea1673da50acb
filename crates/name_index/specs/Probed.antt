-- What probing from a name's start slot comes to.
use Rattle.std.specs.Prelude.{ℕ, ◌≡◌, List, Option, None, Some, Result, Ok, Err}
use Rattle.definitions.specs.Name.{Name}
use Rattle.definitions.specs.NameIndex.{slot_count, free, start_slot, slot_at, free_from, find}

-- the slot at a place holds a number
abbrev pub Taken : List ℕ → ℕ → Type 0
Taken slots at = slot_at slots at ≡ free → ⊥

-- the number that is found, or else the slot that the name would enter
unfoldable pub held_or : Option ℕ → ℕ → Result ℕ ℕ
held_or (Some i) at = Ok i
held_or None at = Err at

unfoldable pub probed : (ℕ → Name) → List ℕ → Name → Result ℕ ℕ
probed name slots x = held_or (find name slots x) (free_from slots slot_count (start_slot x))
