-- A search that goes up from place 0.
use Prim.Native.Nat.{ℕ, ◌+◌, ◌<◌, ◌≤◌}
use mathlib.Core.Path.{◌≡◌, refl}
use mathlib.Core.Bool.{Bool, false}
use Rattle.std.specs.Prelude.{None}
use native.Mathlib.Omega.{arith}
use Rattle.definitions.specs.Outcome.{lowest}
use Rattle.definitions.proofs.Lowest.{lowest_passed}

-- the places below i are searched, and the test holds at none of them
pub record Passed (test : ℕ → Bool) (count i : ℕ) : Type 0 where
  pub up_to : i ≤ count
  pub none_below : lowest test i ≡ None

pub at_start : (test : ℕ → Bool) (count : ℕ) → Passed test count 0
unfolding lowest
at_start test count = record { up_to = omega arith; none_below = refl }

pub onward : {test : ℕ → Bool} {count i : ℕ} → Passed test count i → i < count → test i ≡ false → Passed test count (i + 1)
onward {test} {count} {i} p h e = record { up_to = omega arith; none_below = lowest_passed test i p.none_below e }
