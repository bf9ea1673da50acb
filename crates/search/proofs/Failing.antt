-- The place that a search from 0 upwards stops at is the lowest; where it stops at none, there is none.
use Prim.Native.Nat.{ℕ, zero, suc, ◌≤◌, ◌<◌}
use mathlib.Core.Path.{◌≡◌, refl, sym}
use mathlib.Core.Bool.{Bool, true, false}
use native.Mathlib.Omega.{arith}
use Rattle.std.specs.Option.{MatchOption}
use Rattle.std.specs.Prelude.{Option, None, Some}
use Rattle.definitions.specs.Outcome.{first_of, lowest}
use Rattle.definitions.proofs.Lowest.{found_here}

pub fails_below : (test : ℕ → Bool) (count : ℕ) → ((k : ℕ) → k < count → test k ≡ false) → lowest test count ≡ None
unfolding lowest first_of
fails_below test zero h = refl
fails_below test (suc count) h = rw (fails_below test count (λ k l. h k (omega arith)), h count (omega arith)) refl

-- as the library's `find` over a range says it
pub is_lowest : (test : ℕ → Bool) (count : ℕ) (r : Option ℕ)
    → MatchOption r ((k : ℕ) → 0 ≤ k → k < count → k < count → test k ≡ false) (λ i. (0 ≤ i) × (i < count) × (i < count → test i ≡ true) × ((k : ℕ) → 0 ≤ k → k < i → k < count → test k ≡ false))
    → r ≡ lowest test count
is_lowest test count None none = sym (fails_below test count (λ k l. none k (omega arith) l l))
is_lowest test count (Some i) (_, below, here, fails) =
    found_here test i count (fails_below test i (λ k l. fails k (omega arith) l (omega arith))) (here below) below
