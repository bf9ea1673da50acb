-- A result of 0 is an accepted answer: no refusal that a question meets has that number (`Refusals` of `definitions`).
use Prim.Native.Nat.{ℕ}
use mathlib.Core.Path.{◌≡◌, refl}
use Rattle.definitions.specs.Outcome.{Outcome, accepted}
use Rattle.definitions.specs.Refusals.{Uses, is_accepted, is_refused}
use Rattle.skriduhol_c.specs.Handed.{number_of}

pub zero_accepted : (Kind : ℕ → Type 0) → (Kind 0 → ⊥) → {A : Type 0} {o : Outcome A} → Uses Kind o → number_of o ≡ 0 → (a : A) × (o ≡ accepted a)
unfolding number_of
zero_accepted Kind not-0 (is_accepted {a = a}) e = (a, refl)
zero_accepted Kind not-0 (is_refused h) e = absurd (not-0 (rw e at h))
