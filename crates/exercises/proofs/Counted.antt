-- The table of counts, each entry by computation.
use Prim.Native.Nat.{ℕ, zero, suc, ◌≤◌, ◌<◌}
use mathlib.Core.Path.{◌≡◌, refl, sym, ◌∙◌}
use mathlib.Core.List.{List, [], ◌∷◌}
use native.Mathlib.Omega.{arith}
use lib.ListN.{get_or}
use Rattle.exercise_laws.specs.Counts.{before, each, counts}
use Rattle.exercise_laws.proofs.Counts.{length_of_size}
use Rattle.exercises.specs.Sizes.{size, CountOf}

abbrev pub table : List (List ℕ)
table =
    (2 ∷ 12 ∷ 144 ∷ 2160 ∷ []) ∷ (3 ∷ 27 ∷ 486 ∷ 10935 ∷ []) ∷ (4 ∷ 48 ∷ 1152 ∷ 34560 ∷ []) ∷ (5 ∷ 75 ∷ 2250 ∷ 84375 ∷ []) ∷ []

counted : (names k c : ℕ) → c ≡ counts names k k → 0 < c → c ≤ 84375 → CountOf names k c
unfolding size
counted names k c e some bounded = record { is = e ∙ sym (length_of_size names k); some = some; bounded = bounded }

pub entry : (names k : ℕ) → names ≤ 3 → k ≤ 3 → CountOf names k (get_or (get_or table names []) k 0)
unfolding counts each before
entry zero zero h i = counted 0 0 2 refl (omega arith) (omega arith)
entry zero (suc zero) h i = counted 0 1 12 refl (omega arith) (omega arith)
entry zero (suc (suc zero)) h i = counted 0 2 144 refl (omega arith) (omega arith)
entry zero (suc (suc (suc zero))) h i = counted 0 3 2160 refl (omega arith) (omega arith)
entry zero (suc (suc (suc (suc k)))) h i = absurd (omega arith)
entry (suc zero) zero h i = counted 1 0 3 refl (omega arith) (omega arith)
entry (suc zero) (suc zero) h i = counted 1 1 27 refl (omega arith) (omega arith)
entry (suc zero) (suc (suc zero)) h i = counted 1 2 486 refl (omega arith) (omega arith)
entry (suc zero) (suc (suc (suc zero))) h i = counted 1 3 10935 refl (omega arith) (omega arith)
entry (suc zero) (suc (suc (suc (suc k)))) h i = absurd (omega arith)
entry (suc (suc zero)) zero h i = counted 2 0 4 refl (omega arith) (omega arith)
entry (suc (suc zero)) (suc zero) h i = counted 2 1 48 refl (omega arith) (omega arith)
entry (suc (suc zero)) (suc (suc zero)) h i = counted 2 2 1152 refl (omega arith) (omega arith)
entry (suc (suc zero)) (suc (suc (suc zero))) h i = counted 2 3 34560 refl (omega arith) (omega arith)
entry (suc (suc zero)) (suc (suc (suc (suc k)))) h i = absurd (omega arith)
entry (suc (suc (suc zero))) zero h i = counted 3 0 5 refl (omega arith) (omega arith)
entry (suc (suc (suc zero))) (suc zero) h i = counted 3 1 75 refl (omega arith) (omega arith)
entry (suc (suc (suc zero))) (suc (suc zero)) h i = counted 3 2 2250 refl (omega arith) (omega arith)
entry (suc (suc (suc zero))) (suc (suc (suc zero))) h i = counted 3 3 84375 refl (omega arith) (omega arith)
entry (suc (suc (suc zero))) (suc (suc (suc (suc k)))) h i = absurd (omega arith)
entry (suc (suc (suc (suc names)))) k h i = absurd (omega arith)
