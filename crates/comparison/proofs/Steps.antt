-- The order of the comparison: refusals 1 to 11, then 17, then the conclusions.
use Prim.Native.Nat.{ℕ, ◌<◌, ◌≤◌}
use mathlib.Core.Path.{◌≡◌, refl, sym}
use mathlib.Core.Bool.{Bool, true, false, ◌||◌, true≢false}
use mathlib.Core.Logic.{◌⊎◌, inl, inr, ⊎_elim}
use mathlib.Core.List.{List}
use lib.Dec.{leb}
use borrow.Author.Tests.{le-leb, lt-leb}
use Rattle.definitions.specs.declared.Refusal.{Refusal}
use Rattle.definitions.specs.Outcome.{Outcome, refused, refuse, ◌>>=◌, refuse_if}
use Rattle.definitions.specs.Sheet.{steps, step_records}
use Rattle.definitions.specs.Admission.{admitted}
use Rattle.definitions.specs.Answers.{comparison}
use Rattle.sheet.specs.Admitted.{Accepted}
use Rattle.steps.specs.StepAt.{step_at}
use Rattle.comparison.specs.Conclusions.{conclusion_comparison}
use Rattle.comparison.proofs.Conclusions.{concluded_step}

pub not_a_sheet : (s : List ℕ) (i j : ℕ) {r : Refusal} → admitted s ≡ refused r → refused r ≡ comparison s i j
unfolding comparison ◌>>=◌
not_a_sheet s i j e = rw e

either : (a b : Bool) → (a ≡ true) ⊎ (b ≡ true) → a || b ≡ true
either true b holds = refl
either false b (inl e) = absurd (true≢false (sym e))
either false b (inr e) = e

module _ {s : List ℕ} (a : Accepted s) (i j : ℕ) where
  pub no_such_step : (steps s ≤ i) ⊎ (steps s ≤ j) → refuse 17 0 ≡ comparison s i j
  unfolding comparison ◌>>=◌ refuse_if refuse
  no_such_step past = rw (a.root, either (leb (steps s) i) (leb (steps s) j) (⊎_elim (λ h. inl (le-leb _ _ h)) (λ h. inr (le-leb _ _ h)) past), ◌>>=◌, refuse_if)

  pub both_steps : i < steps s → j < steps s → {o : Outcome Bool}
      → o ≡ conclusion_comparison s (step_at (step_records s) i).conclusion (step_at (step_records s) j).conclusion
      → o ≡ comparison s i j
  unfolding comparison conclusion_comparison ◌>>=◌ refuse_if
  both_steps first second e =
      rw (a.root, lt-leb (steps s) i first, lt-leb (steps s) j second, ◌>>=◌) (rw (concluded_step, concluded_step) at e)
