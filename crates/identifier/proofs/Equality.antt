-- Two names are equal where their lengths are, and their bytes at each place.
use Prim.Native.Nat.{ℕ, zero, suc, ◌<◌}
use mathlib.Core.Path.{◌≡◌, refl, ap}
use mathlib.Core.Bool.{true, false, and-false}
use mathlib.Core.List.{[], ◌∷◌}
use native.Mathlib.Omega.{arith}
use lib.ListN.{length, get_or}
use borrow.Author.Tests.{eq-eqb, ne_eqb}
use Rattle.definitions.specs.Name.{Name, eq_name}

-- names of different lengths are not equal
pub eq_name_lengths : (a b : Name) → (length a ≡ length b → ⊥) → eq_name a b ≡ false
unfolding eq_name
eq_name_lengths [] [] d = absurd (d refl)
eq_name_lengths [] (y ∷ b) d = refl
eq_name_lengths (x ∷ a) [] d = refl
eq_name_lengths (x ∷ a) (y ∷ b) d = rw (eq_name_lengths a b (λ e. d (ap suc e)), and-false)

-- nor are names with different bytes at a place
pub eq_name_differ : (a b : Name) (k : ℕ) → k < length a → k < length b → (get_or a k 0 ≡ get_or b k 0 → ⊥)
    → eq_name a b ≡ false
unfolding eq_name
eq_name_differ [] b k h l d = absurd (omega arith)
eq_name_differ (x ∷ a) [] k h l d = refl
eq_name_differ (x ∷ a) (y ∷ b) zero h l d = rw (ne_eqb x y d)
eq_name_differ (x ∷ a) (y ∷ b) (suc k) h l d = rw (eq_name_differ a b k (omega arith) (omega arith) d, and-false)

-- names of one length with the same bytes at each place are
pub eq_name_alike : (a b : Name) → length a ≡ length b → ((k : ℕ) → k < length a → get_or a k 0 ≡ get_or b k 0)
    → eq_name a b ≡ true
unfolding eq_name
eq_name_alike [] [] e same = refl
eq_name_alike [] (y ∷ b) e same = absurd (omega arith)
eq_name_alike (x ∷ a) [] e same = absurd (omega arith)
eq_name_alike (x ∷ a) (y ∷ b) e same =
    rw (eq-eqb x y (same zero (omega arith)), eq_name_alike a b (omega arith) (λ k h. same (suc k) (omega arith)))
