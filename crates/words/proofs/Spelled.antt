-- A word is equal to another where it is as long and has its bytes.
use mathlib.Core.Path.{◌≡◌, refl, ap}
use mathlib.Core.Bool.{Bool, true, false, ◌&&◌}
use mathlib.Core.List.{List, [], ◌∷◌}
use Prim.Native.Nat.{ℕ, suc}
use native.Mathlib.Omega.{arith}
use lib.Dec.{eqb}
use lib.ListN.{length, get_or}
use Rattle.std.proofs.lemmas.Bool.Decides.{nat_tests}
use Rattle.definitions.specs.Name.{eq_name}

-- the bytes from i on
abbrev pub bytes_are : List ℕ → ℕ → List ℕ → Bool
bytes_are w i [] = true
bytes_are w i (b ∷ p) = eqb (get_or w i 0) b && bytes_are w (suc i) p

behind : (x : ℕ) (w p : List ℕ) (i : ℕ) → bytes_are (x ∷ w) (suc i) p ≡ bytes_are w i p
behind x w [] i = refl
behind x w (b ∷ p) i = ap (λ t. eqb (get_or w i 0) b && t) (behind x w p (suc i))

pub spelled : (w p : List ℕ) → length w ≡ length p → eq_name w p ≡ bytes_are w 0 p
unfolding eq_name
spelled [] [] e = refl
spelled [] (y ∷ p) e = absurd (omega arith)
spelled (x ∷ w) [] e = absurd (omega arith)
spelled (x ∷ w) (y ∷ p) e = rw (spelled w p (omega arith), behind x w p 0)

pub other_length : (w p : List ℕ) → (length w ≡ length p → ⊥) → eq_name w p ≡ false
unfolding eq_name
other_length [] [] e = absurd (e refl)
other_length [] (y ∷ p) e = refl
other_length (x ∷ w) [] e = refl
other_length (x ∷ w) (y ∷ p) e = rw (other_length w p (λ l. e (omega arith))) (grind arith)

pub ruleset by_bytes = (spelled, other_length, nat_tests)
