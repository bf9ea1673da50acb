-- Ticket 14: the lowest number with equal bytes, or that there is none.
use Rattle.std.specs.Prelude.{ℕ, ◌<◌, ◌≡◌, Option, None, Some}
use Rattle.definitions.specs.Name.{Name}

pub data LowestNumber (name : ℕ → Name) (n : ℕ) (x : Name) : Option ℕ → Type 0 where
  is_lowest : {j : ℕ} → j < n → name j ≡ x → ((i : ℕ) → i < j → name i ≡ x → ⊥) → LowestNumber name n x (Some j)
  there_is_none : ((i : ℕ) → i < n → name i ≡ x → ⊥) → LowestNumber name n x None
