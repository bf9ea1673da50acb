-- Ticket 14: what holds of the index of the names below a count.
use Rattle.std.specs.Prelude.{ℕ, ◌+◌, ◌≤◌, ◌<◌, ◌≡◌, cond, List, [], ◌∷◌, length, eqb, None}
use Rattle.definitions.specs.Name.{Name}
use Rattle.definitions.specs.NameIndex.{slot_count, free, start_slot, slot_at, plain_search}

-- how many slots are taken
unfoldable pub taken : List ℕ → ℕ
taken [] = 0
taken (a ∷ l) = cond (eqb a free) 0 1 + taken l

-- every one of so many slots from a place on is taken
abbrev pub AllTaken : List ℕ → ℕ → ℕ → Type 0
AllTaken slots at more = (i : ℕ) → i < more → slot_at slots (at + i) ≡ free → ⊥

module _ (name : ℕ → Name) where
  -- no earlier name has its bytes
  unfoldable pub First : ℕ → Type 0
  First i = plain_search name i (name i) ≡ None

  -- where name j stands: so many slots on from its start slot, and those before it are taken
  pub record Stands (slots : List ℕ) (j : ℕ) : Type 0 where
    pub steps : ℕ
    pub within : steps < slot_count
    pub here : slot_at slots (start_slot (name j) + steps) ≡ j
    pub before : AllTaken slots (start_slot (name j)) steps

  -- each taken slot has the number of a first name, and each first name stands somewhere
  pub record Indexed (n : ℕ) (slots : List ℕ) : Type 0 where
    pub size : length slots ≡ slot_count
    pub few : taken slots ≤ n
    pub entered : (at : ℕ) → (slot_at slots at ≡ free → ⊥) → (slot_at slots at < n) × First (slot_at slots at)
    pub stands : (j : ℕ) → j < n → First j → Stands slots j
