-- Whether two propositions are equal, by the numbers that they have.
use Prim.Native.Nat.{ℕ}
use mathlib.Core.Path.{◌≡◌, refl, sym, ap}
use mathlib.Core.Bool.{Bool, true, false, ◌&&◌}
use Rattle.definitions.specs.Name.{Name}
use Rattle.definitions.specs.Prop.{Prop, True, False, Binary, Atom, Quantified, Connective, eq_connective, as_binary, rename_prop}
use Rattle.definitions.specs.Equal.{eq_sides, eq_prop}
use Rattle.definitions.proofs.Connectives.{eq_connective_true, eq_connective_of_eq}

module _ (f : ℕ → Name) where
  -- two of one connective are equal where their sides are
  pub same_sides : (c : Connective) (x y x' y' : Prop ℕ)
      → eq_prop (rename_prop f (Binary c x y)) (rename_prop f (Binary c x' y'))
      ≡ (eq_prop (rename_prop f x) (rename_prop f x') && eq_prop (rename_prop f y) (rename_prop f y'))
  unfolding eq_prop eq_sides as_binary rename_prop
  same_sides c x y x' y' = rw (eq_connective_of_eq {c = c} refl)

  -- a binary one differs from every one that has not its connective
  pub same_else : (c : Connective) (x y a : Prop ℕ) → ((x' y' : Prop ℕ) → a ≡ Binary c x' y' → ⊥)
      → eq_prop (rename_prop f (Binary c x y)) (rename_prop f a) ≡ false
  unfolding eq_prop eq_sides as_binary rename_prop
  same_else c x y True h = refl
  same_else c x y False h = refl
  same_else c x y (Binary d x' y') h = go (eq_connective c d) refl
    where
      go : (b : Bool) → eq_connective c d ≡ b
          → (eq_connective c d && (eq_prop (rename_prop f x) (rename_prop f x') && eq_prop (rename_prop f y) (rename_prop f y'))) ≡ false
      go true e = absurd (h x' y' (ap (λ i. Binary i x' y') (sym (eq_connective_true e))))
      go false e = rw e
  same_else c x y (Atom b ps) h = refl
  same_else c x y (Quantified q b t p) h = refl
