-- A list as a collection: what stands in it, and that each stands in it once.
use Rattle.std.specs.Prelude.{◌≡◌, List, [], ◌∷◌}

pub data In {A : Type 0} (a : A) : List A → Type 0 where
  here : {b : A} {l : List A} → a ≡ b → In a (b ∷ l)
  later : {b : A} {l : List A} → In a l → In a (b ∷ l)

module _ {A : Type 0} where
  -- nothing stands in it twice
  unfoldable pub Once : List A → Type 0
  Once [] = Unit {0}
  Once (a ∷ l) = (In a l → ⊥) × Once l
