-- The code of a leaf.
use Prim.Native.Nat.{ℕ, zero, suc, ◌+◌, ◌-◌, ◌/◌, ◌%◌, ◌≤◌, ◌<◌}
use mathlib.Core.Path.{◌≡◌, ap}
use mathlib.Core.List.{[], ◌∷◌}
use native.Mathlib.Omega.{arith}
use lib.ListN.{get_or}
use Rattle.definitions.specs.Prop.{True}
use Rattle.definitions.specs.Code.{encode, u16, encode_parameters}
use Rattle.definitions.specs.Exercises.{of_size}
use Rattle.exercise_laws.specs.Counts.{counts}
use Rattle.exercise_laws.proofs.Counts.{length_of_size}
use Rattle.exercise_laws.proofs.Ordinals.{leaf_true, leaf_false, leaf_atom}
use Rattle.exercises.specs.Sizes.{size, code_at}

pub leaves : (names : ℕ) → size names 0 ≡ 2 + names
unfolding size counts
leaves names = length_of_size names 0

pub constant : (names i : ℕ) → i < 2 → code_at names 0 i ≡ i ∷ []
unfolding encode
constant names zero h = rw (leaf_true names)
constant names (suc zero) h = rw (leaf_false names)
constant names (suc (suc i)) h = absurd (omega arith)

pub named : (names i : ℕ) → names ≤ 3 → 2 ≤ i → i < size names 0 → code_at names 0 i ≡ 5 ∷ (i - 2) ∷ 0 ∷ 0 ∷ []
unfolding encode u16 encode_parameters
named names i few h below =
    let j = i - 2 in
    let up : i ≡ suc (suc j) = omega arith in
    let number : j < names = omega (arith, leaves names) in
    let low : j % 256 ≡ j = omega arith in
    let high : j / 256 ≡ 0 = omega arith in
    rw (ap (λ m. get_or (of_size names 0) m True) up, leaf_atom names j number, low, high)
