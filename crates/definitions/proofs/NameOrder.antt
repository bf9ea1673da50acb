-- Document 02, ticket 8: the comparison of names says equal exactly where their bytes are equal, so a promise by `eq_name` is kept by it.
use Prim.Native.Nat.{ℕ}
use mathlib.Core.Path.{◌≡◌, refl, ◌∙◌}
use mathlib.Core.Logic.{by_cases}
use mathlib.Core.Bool.{◌&&◌}
use mathlib.Core.List.{[], ◌∷◌}
use native.Mathlib.Omega.{arith}
use native.Mathlib.Decide.{dec_lt}
use lib.Dec.{eqb}
use borrow.Author.Tests.{lt-ltb, le-ltb, eq-eqb, ne_eqb}
use Rattle.std.specs.declared.cmp.Ordering.{Ordering}
use Rattle.std.specs.declared.cmp.Ordering.TheVariants.{Less, Equal, Greater}
use Rattle.definitions.specs.Name.{Name, compare_number, or_else, compare_name, is_equal, eq_name}
use Rattle.definitions.specs.Prop.{AtomUse}
use Rattle.definitions.specs.Text.{compare_atom_use, eq_atom_use}

equal_number : (x y : ℕ) → is_equal (compare_number x y) ≡ eqb x y
unfolding compare_number is_equal
equal_number x y = by_cases (dec_lt x y)
    (λ h. rw (lt-ltb x y h, ne_eqb x y (λ e. omega arith)))
    (λ h. by_cases (dec_lt y x)
    (λ k. rw (le-ltb x y (omega arith), ne_eqb x y (λ e. omega arith)))
    (λ k. rw (le-ltb x y (omega arith), eq-eqb x y (omega arith))))

equal_then : (o next : Ordering) → is_equal (or_else o next) ≡ is_equal o && is_equal next
unfolding or_else is_equal
equal_then Less next = refl
equal_then Equal next = refl
equal_then Greater next = refl

pub equal_name : (a b : Name) → is_equal (compare_name a b) ≡ eq_name a b
unfolding compare_name eq_name is_equal
equal_name [] [] = refl
equal_name [] (y ∷ ys) = refl
equal_name (x ∷ xs) [] = refl
equal_name (x ∷ xs) (y ∷ ys) = equal_then (compare_number x y) (compare_name xs ys) ∙ rw (equal_number x y, equal_name xs ys)

pub equal_use : (a b : AtomUse Name) → is_equal (compare_atom_use a b) ≡ eq_atom_use a b
unfolding compare_atom_use eq_atom_use
equal_use a b =
    equal_then (compare_name a.name b.name) (compare_number a.count b.count) ∙ rw (equal_name a.name b.name, equal_number a.count b.count)
