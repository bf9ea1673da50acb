-- What an answer of the walk tells of the outcome: after a yes the rest decides, and nothing follows a no or a refusal.
use Rattle.std.specs.Prelude.{Ok, Err, Some, None, is_some}
use Prim.Native.Nat.{ℕ}
use mathlib.Core.Path.{◌≡◌, refl, ap}
use mathlib.Core.Bool.{Bool, true, false}
use Rattle.std.specs.Bool.{then_some}
use Rattle.definitions.specs.declared.Refusal.{Refusal}
use Rattle.definitions.specs.Outcome.{Outcome, refused, accepted}
use Rattle.definitions.specs.Comparison.{no, and_also}
use Rattle.alpha_eq.specs.Comparing.{Compared, compared}

-- the outcome of an answer
abbrev pub told : Compared → Outcome Bool
told (Err r) = refused r
told (Ok ends) = accepted (is_some ends)

pub told_compared : (outcome : Outcome Bool) (i j : ℕ) → told (compared outcome i j) ≡ outcome
unfolding compared
told_compared (refused r) i j = refl
told_compared (accepted true) i j = refl
told_compared (accepted false) i j = refl

-- a test with the ends
pub tested : (same : Bool) (i j : ℕ) → Ok (then_some same (i, j)) ≡ compared (accepted same) i j
unfolding compared
tested true i j = refl
tested false i j = refl

-- an answer that ends the walk
pub Stops : Compared → Type 0
Stops r = (i j : ℕ) → r ≡ Ok (Some (i, j)) → ⊥

pub no_stops : Stops (Ok None)
unfolding Stops
no_stops i j e = cc

pub refusal_stops : (r : Refusal) → Stops (Err r)
unfolding Stops
refusal_stops r i j e = cc

-- a yes tells the outcome and the ends
pub yes_ends : (outcome : Outcome Bool) (i j : ℕ) {a b : ℕ} → Ok (Some (a, b)) ≡ compared outcome i j → (outcome ≡ accepted true) × (a ≡ i) × (b ≡ j)
unfolding compared
yes_ends (refused r) i j e = (cc, cc, cc)
yes_ends (accepted true) i j {a} {b} e =
    let both : ◌≡◌ {A = ℕ × ℕ} (a, b) (i, j) = cc in (refl, ap (λ (p : ℕ × ℕ). p.0) both, ap (λ (p : ℕ × ℕ). p.1) both)
yes_ends (accepted false) i j e = (cc, cc, cc)

-- what is no yes is the answer, whatever would follow
pub stopped : (outcome : Outcome Bool) (i j : ℕ) {r : Compared} → Stops r → r ≡ compared outcome i j
    → (rest : Outcome Bool) (k l : ℕ) → r ≡ compared (and_also outcome rest) k l
unfolding Stops compared and_also no
stopped (refused x) i j s e rest k l = e
stopped (accepted true) i j s e rest k l = absurd (s i j e)
stopped (accepted false) i j s e rest k l = e

-- after a yes the rest is the answer
pub followed : (outcome rest : Outcome Bool) {i j k l : ℕ} {r : Compared} → outcome ≡ accepted true → i ≡ k → j ≡ l
    → r ≡ compared rest i j → r ≡ compared (and_also outcome rest) k l
unfolding and_also
followed outcome rest accepts at other e = rw (accepts, ← at, ← other) e
