-- The declarations chained by slots: each has the start slot of its name (document 02, ticket 14), and names with the same bytes have
-- the same one. The chains are two tables: the newest declaration of each slot, where its chain begins, and behind each declaration the
-- next older one, where the chain goes on.
use Rattle.std.specs.Prelude.{ℕ, ◌+◌, ◌≤◌, ◌<◌, ◌≡◌, List, get_or, Option, None, Some}
use Rattle.definitions.specs.Name.{Name}
use Rattle.definitions.specs.NameIndex.{slot_count, start_slot}
use Rattle.declarations.specs.declared.Declaration.{Declaration}

-- declaration j, and its slot
abbrev pub row : List Declaration → ℕ → Declaration
row rows j = get_or rows j (record { name = 0; count = 0 })

abbrev pub slot_of : (ℕ → Name) → List Declaration → ℕ → ℕ
slot_of f rows j = start_slot (f (row rows j).name)

-- how many declarations there are up to one, and 0 where it is none
abbrev pub up_to : Option ℕ → ℕ
up_to None = 0
up_to (Some j) = j + 1

-- Where declaration j has the slot `slot j`:
module _ (slot : ℕ → ℕ) where
  -- the newest of the first len declarations that has a slot, or none where none of them has it
  pub record Newest (s len : ℕ) (at : Option ℕ) : Type 0 where
    pub within : up_to at ≤ len
    pub own : (j : ℕ) → up_to at ≡ j + 1 → slot j ≡ s
    pub last : (i : ℕ) → up_to at ≤ i → i < len → slot i ≡ s → ⊥

  -- the chain of each slot begins at its newest, and goes on behind each of the first len declarations at the newest before it that has
  -- its slot: so every declaration is reached from its slot
  pub record Chained (len : ℕ) (newest older : List (Option ℕ)) : Type 0 where
    pub begins : (s : ℕ) → s < slot_count → Newest s len (get_or newest s None)
    pub goes_on : (j : ℕ) → j < len → Newest (slot j) j (get_or older j None)
