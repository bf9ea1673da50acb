-- How a search from place 0 upwards finds the lowest place at which a test holds, and what it answers.
use Prim.Native.Nat.{ℕ, zero, suc, ◌+◌, ◌<◌}
use mathlib.Core.Path.{◌≡◌, refl, sym}
use mathlib.Core.Bool.{Bool, true, false}
use Rattle.std.specs.Prelude.{Option, None, Some}
use native.Mathlib.Omega.{arith}
use native.Mathlib.Decide.{dec_lt}
use native.Mathlib.Numerals.{add-one}
use Rattle.definitions.specs.Outcome.{first_of, lowest}

module _ (test : ℕ → Bool) where
  -- one more place at which the test fails
  pub lowest_passed : (i : ℕ) → lowest test i ≡ None → test i ≡ false → lowest test (i + 1) ≡ None
  unfolding lowest first_of
  lowest_passed i h e = rw (add-one, lowest, h, e)

  -- the first place at which it holds is the lowest of any count past it
  pub lowest_found : (i count : ℕ) → lowest test i ≡ None → test i ≡ true → i < count → lowest test count ≡ Some i
  unfolding lowest first_of
  lowest_found i zero h e l = absurd (omega arith)
  lowest_found i (suc count) h e l = go (dec_lt i count) (lowest_found i count h e)
    where
      go : Dec (i < count) → (i < count → lowest test count ≡ Some i) → lowest test (suc count) ≡ Some i
      go (yes k) again = rw (lowest, again k)
      go (no k) again = let same : count ≡ i = omega arith in rw (same, lowest, h, e)

  module _ (i count : ℕ) (passed : lowest test i ≡ None) where
    -- the answer at the first place at which it holds
    pub found_here : test i ≡ true → i < count → Some i ≡ lowest test count
    found_here e l = sym (lowest_found i count passed e l)

    -- the answer past the last place
    pub found_nowhere : i ≡ count → None ≡ lowest test count
    found_nowhere e = sym (rw e at passed)

-- below the count of a search that finds none, the test fails everywhere
pub all_fail : (test : ℕ → Bool) (count : ℕ) → lowest test count ≡ None → (i : ℕ) → i < count → test i ≡ false
unfolding lowest first_of
all_fail test zero e i h = absurd (omega arith)
all_fail test (suc count) e i h = go (lowest test count) (test count) refl refl e (all_fail test count)
  where
    go : (earlier : Option ℕ) (here : Bool) → lowest test count ≡ earlier → test count ≡ here
        → first_of earlier here count ≡ None
        → (lowest test count ≡ None → (j : ℕ) → j < count → test j ≡ false) → test i ≡ false
    go (Some j) here same at f below = absurd (grind arith)
    go None true same at f below = absurd (grind arith)
    go None false same at f below = choose (dec_lt i count)
      where
        choose : Dec (i < count) → test i ≡ false
        choose (yes k) = below same i k
        choose (no k) = let is : i ≡ count = omega arith in rw is at

-- a search whose test fails everywhere below its count finds none
pub none_found : (test : ℕ → Bool) (count : ℕ) → ((i : ℕ) → i < count → test i ≡ false) → lowest test count ≡ None
unfolding lowest first_of
none_found test zero h = refl
none_found test (suc count) h = rw (none_found test count (λ i l. h i (omega arith)), h count (omega arith))

-- tests that agree below a count have the same lowest place
pub same_lowest : (test test' : ℕ → Bool) (count : ℕ) → ((k : ℕ) → k < count → test k ≡ test' k) → lowest test count ≡ lowest test' count
unfolding lowest
same_lowest test test' zero h = refl
same_lowest test test' (suc count) h =
    rw (same_lowest test test' count (λ k l. h k (omega arith)), h count (omega arith))
