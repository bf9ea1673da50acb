-- The test of two names decides whether their bytes are equal.
use mathlib.Core.Path.{◌≡◌, refl, sym, ◌∙◌}
use mathlib.Core.Bool.{Bool, true, false, true≢false, and-eq-true_iff}
use mathlib.Core.List.{[], ◌∷◌}
use lib.Dec.{eqb}
use borrow.Author.Tests.{eqb-true, eq-eqb}
use Rattle.definitions.specs.Name.{Name, eq_name}

pub eq_name_refl : (x : Name) → eq_name x x ≡ true
unfolding eq_name
eq_name_refl [] = refl
eq_name_refl (a ∷ x) = simp (eq-eqb a a refl, eq_name_refl x)

pub eq_name_of_eq : {x y : Name} → x ≡ y → eq_name x y ≡ true
eq_name_of_eq {x} e = rw (← e) (eq_name_refl x)

pub eq_name_true : {x y : Name} → eq_name x y ≡ true → x ≡ y
unfolding eq_name
eq_name_true {x = []} {y = []} e = refl
eq_name_true {x = []} {y = b ∷ y} e = cc
eq_name_true {x = a ∷ x} {y = []} e = cc
eq_name_true {x = a ∷ x} {y = b ∷ y} e =
    let parts = (and-eq-true_iff (eqb a b) (eq_name x y)).0 e in
    let first = eqb-true a b parts.0 in
    let rest : x ≡ y = eq_name_true parts.1 in
    cc

pub eq_name_false : {x y : Name} → eq_name x y ≡ false → x ≡ y → ⊥
eq_name_false e same = true≢false (sym (eq_name_of_eq same) ∙ e)

pub eq_name_of_ne : {x y : Name} → (x ≡ y → ⊥) → eq_name x y ≡ false
eq_name_of_ne {x} {y} apart = go (eq_name x y) refl
  where
    go : (b : Bool) → eq_name x y ≡ b → eq_name x y ≡ false
    go true e = absurd (apart (eq_name_true e))
    go false e = e

pub eq_name_sym : (x y : Name) → eq_name x y ≡ eq_name y x
eq_name_sym x y = go (eq_name y x) refl
  where
    go : (b : Bool) → eq_name y x ≡ b → eq_name x y ≡ b
    go true e = eq_name_of_eq (sym (eq_name_true e))
    go false e = eq_name_of_ne (λ same. eq_name_false e (sym same))
