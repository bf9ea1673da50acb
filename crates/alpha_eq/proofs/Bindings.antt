-- The latest binding decides if it has either name, and else the earlier ones do.
use Prim.Native.Nat.{ℕ}
use mathlib.Core.Path.{◌≡◌, refl}
use mathlib.Core.Bool.{Bool, ◌&&◌, ◌||◌, cond}
use mathlib.Core.List.{List, [], ◌∷◌}
use Rattle.definitions.specs.Outcome.{accepted, refuse}
use Rattle.definitions.specs.Name.{eq_name}
use Rattle.definitions.specs.Sheet.{marked}
use Rattle.definitions.specs.Comparison.{bound_alike}
use Rattle.alpha_eq.specs.declared.BoundObjects.{BoundObjects}
use Rattle.std.proofs.Common.{Bor, rules}
use Rattle.alpha_eq.specs.declared.Binders.{Binders, Empty, Latest, the_lemmas}
use Rattle.alpha_eq.specs.Bindings.{numbers, binding_of, bindings_of}
use Rattle.alpha_eq.specs.Comparing.{bound_alike_in}

pub numbers_latest : (latest : BoundObjects) (earlier : Bor Binders) → numbers (Latest latest earlier) ≡ latest ∷ numbers earlier.now
numbers_latest latest earlier = search (rules, the_lemmas)

pub numbers_empty : numbers Empty ≡ []
numbers_empty = search (rules, the_lemmas)

module _ (pairs text : List ℕ) (x y : ℕ) where
  pub latest_decides : (latest : BoundObjects) (earlier : List BoundObjects) {has-x has-y : Bool}
      → has-x ≡ eq_name (marked pairs text latest.left) (marked pairs text x)
      → has-y ≡ eq_name (marked pairs text latest.right) (marked pairs text y)
      → bound_alike_in pairs text (latest ∷ earlier) x y
      ≡ cond (has-x || has-y) (accepted (has-x && has-y)) (bound_alike_in pairs text earlier x y)
  unfolding bound_alike_in bound_alike bindings_of binding_of
  latest_decides latest earlier of-x of-y = rw (of-x, of-y)

  -- where there is none, that is refusal 19
  pub none_bound : bound_alike_in pairs text [] x y ≡ refuse 19 0
  unfolding bound_alike_in bound_alike bindings_of
  none_bound = refl
