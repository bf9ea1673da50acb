-- What the answer of a search says of the places, and of the refusal that goes by it.
use Prim.Native.Nat.{ℕ, zero, suc, ◌<◌}
use mathlib.Core.Path.{◌≡◌, refl, sym}
use mathlib.Core.Bool.{Bool, true, false, not}
use Rattle.std.specs.Prelude.{Option, None, Some, ℕ, ◌≤◌, IfSome}
use native.Mathlib.Omega.{arith}
use Rattle.definitions.specs.Outcome.{Outcome, accepted, refuse, first_of, lowest, refuse_at, refuse_lowest}
use Rattle.definitions.proofs.Lowest.{all_fail}
use Rattle.definitions.proofs.Outcomes.{none_lowest}

-- the lowest place lies below the count
lowest_below : (test : ℕ → Bool) (count : ℕ) {i : ℕ} → lowest test count ≡ Some i → i < count
unfolding lowest first_of
lowest_below test zero e = absurd (grind arith)
lowest_below test (suc count) {i} e = go (lowest test count) (test count) refl e (λ j. lowest_below test count)
  where
    go : (earlier : Option ℕ) (here : Bool) → lowest test count ≡ earlier → first_of earlier here count ≡ Some i
        → ((j : ℕ) → lowest test count ≡ Some j → j < count) → i < suc count
    go (Some j) here same f below = let is : j ≡ i = cc in omega (arith, below j same)
    go None true same f below = let is : count ≡ i = cc in omega arith
    go None false same f below = absurd (grind arith)

-- where a place would be refused and nothing is, there is none
pub no_place : (o : Option ℕ) (number : ℕ) {a : Unit {0}} → accepted a ≡ refuse_at o number → o ≡ None
unfolding refuse_at refuse
no_place None number e = refl
no_place (Some i) number e = absurd (grind arith)

-- Of a search:
module _ (test : ℕ → Bool) (count : ℕ) {r : Option ℕ} (answer : r ≡ lowest test count) where
  -- the place that it finds fits a refusal
  pub fits : count ≤ 65536 → IfSome r (λ k. k < 65536)
  fits few = at r answer
    where
      at : (o : Option ℕ) → o ≡ lowest test count → IfSome o (λ k. k < 65536)
      at None e = tt
      at (Some i) e = omega (arith, lowest_below test count (sym e))

  -- its refusal is the definition's
  pub searched : (number : ℕ) {o : Outcome (Unit {0})} → o ≡ refuse_at r number → o ≡ refuse_lowest test count number
  unfolding refuse_lowest
  searched number e = rw answer at e

  -- where nothing is refused, every test fails
  pub none_bad : (number : ℕ) {a : Unit {0}} → accepted a ≡ refuse_at r number → (i : ℕ) → i < count → test i ≡ false
  none_bad number e = all_fail test count (none_lowest test count number (sym (searched number e)))

-- a test that is denied twice
pub denied_twice : (b : Bool) → not (not b) ≡ b
denied_twice true = refl
denied_twice false = refl
