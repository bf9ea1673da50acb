-- Lengths are summed up as far as a cap.
use Prim.Native.Nat.{ℕ, ◌+◌, min}
use mathlib.Core.Path.{◌≡◌, refl}
use native.Mathlib.Omega.{arith}
use Rattle.proof_term_length.specs.Measure.{Agrees}

pub agree_exactly : {most a x : ℕ} → a ≡ x → Agrees most a x
agree_exactly e = record { same = rw e refl }

pub agree_as_far : {most a x : ℕ} → a ≡ min x most → Agrees most a x
agree_as_far e = record { same = omega arith }

-- one size more of a whole that is counted from the front on, beside the bytes that are counted apart
pub one_counted : {most whole y r : ℕ} (a x own rest : ℕ) → Agrees most (a + (own + (x + rest))) whole → Agrees most y x → r ≡ min (a + y) most
    → Agrees most (r + (own + rest)) whole
one_counted a x own rest counted one sum = record { same = omega (arith, counted.same, one.same, sum) }
