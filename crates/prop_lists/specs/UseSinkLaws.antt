-- What every sink of uses keeps: to put nothing leaves it as it was, to put uses and then others is to put all of them at once, and a
-- name that it knows stays known.
use Rattle.std.specs.Prelude.{ℕ, List, [], ◌++◌}
use Rattle.definitions.specs.Prop.{AtomUse}

pub record UseSinkLaws {S : Type 0} (puts : S → List (AtomUse ℕ) → S → Type 0) (knows : S → ℕ → Type 0) : Type 0 where
  pub none : (a : S) → puts a [] a
  pub then : {a b c : S} {s t : List (AtomUse ℕ)} → puts a s b → puts b t c → puts a (s ++ t) c
  pub stays : {a b : S} {s : List (AtomUse ℕ)} → puts a s b → (name : ℕ) → knows a name → knows b name
