-- What a question about a sheet comes to: a value, or one refusal with its number and its place.
-- Document 01, "Refusals in checking order".
use Rattle.std.specs.Prelude.{ℕ, zero, suc, Bool, true, false, Option, None, Some}
use Rattle.definitions.specs.declared.Refusal.{Refusal}

pub data Outcome (A : Type 0) : Type 0 where
  refused : Refusal → Outcome A
  accepted : A → Outcome A

-- the refusal of that number at that place
unfoldable pub refuse : {A : Type 0} → ℕ → ℕ → Outcome A
refuse number place = refused (record { number = number; place = place })

-- a refusal ends the checks; a value goes on to the next
infixl 10 ◌>>=◌
unfoldable pub ◌>>=◌ : {A B : Type 0} → Outcome A → (A → Outcome B) → Outcome B
◌>>=◌ (refused r) next = refused r
◌>>=◌ (accepted a) next = next a

-- the same outcome, with its value changed
unfoldable pub map_outcome : {A B : Type 0} → (A → B) → Outcome A → Outcome B
map_outcome f (refused r) = refused r
map_outcome f (accepted a) = accepted (f a)

-- refused where the test holds
unfoldable pub refuse_if : Bool → ℕ → ℕ → Outcome (Unit {0})
refuse_if true number place = refuse number place
refuse_if false number place = accepted tt

-- the place that was found already, or else this one if the test holds here
unfoldable pub first_of : Option ℕ → Bool → ℕ → Option ℕ
first_of (Some found) test place = Some found
first_of None true place = Some place
first_of None false place = None

-- the lowest place below the count at which the test holds
unfoldable pub lowest : (ℕ → Bool) → ℕ → Option ℕ
lowest test zero = None
lowest test (suc count) = first_of (lowest test count) (test count) count

-- refused at that place, if there is one
unfoldable pub refuse_at : Option ℕ → ℕ → Outcome (Unit {0})
refuse_at None number = accepted tt
refuse_at (Some place) number = refuse number place

-- refused at the lowest place below the count at which the test holds
unfoldable pub refuse_lowest : (ℕ → Bool) → ℕ → ℕ → Outcome (Unit {0})
refuse_lowest test count number = refuse_at (lowest test count) number
