-- Each answer as it is handed back, from what the layers below answer; and that its refusal comes after 1 to 3.
use Prim.Native.Nat.{ℕ}
use mathlib.Core.Path.{◌≡◌, refl, sym, ap, ◌∙◌}
use mathlib.Core.Logic.{inl, inr}
use mathlib.Core.Bool.{Bool}
use mathlib.Core.List.{List, []}
use Rattle.definitions.specs.declared.Refusal.{Refusal}
use Rattle.definitions.specs.declared.Located.{Located}
use Rattle.definitions.specs.Outcome.{Outcome, accepted, refused}
use Rattle.definitions.specs.Answers.{located, column_of, names_step}
use Rattle.definitions.specs.Exercises.{exercise_answer}
use Rattle.definitions.specs.Refusals.{OfExercise}
use Rattle.definitions.proofs.Refusals.{refused_kind, exercise_uses}
use Rattle.std.specs.Prelude.{Result, Err, Ok}
use Rattle.output.specs.Written.{written_of, filled, Fills}
use Rattle.sheet_term.specs.Counted.{counted_of}
use Rattle.located.proofs.Back.{back}
use Rattle.sheet.specs.Checks.{outcome_of}
use Rattle.skriduhol.specs.Located.{filled_of, FillsOf, count_of, verdict_of}

-- a refusal that a layer below answers is the outcome
pub written_refused : {outcome : Outcome (List ℕ)} {before after : List ℕ} {w : Result ℕ Refusal} {r : Refusal} → Fills outcome before after w → w ≡ Err r
    → outcome ≡ refused r
unfolding written_of
written_refused {outcome = accepted a} f e = let answer = f.answer in cc
written_refused {outcome = refused x} f e = let answer = f.answer in cc

pub counted_refused : {r : Refusal} (o : Outcome ℕ) → Err r ≡ counted_of o → o ≡ refused r
unfolding counted_of
counted_refused (accepted n) e = cc
counted_refused (refused x) e = cc

-- Of a sheet's bytes:
module _ (s : List ℕ) where
  -- each kind of answer, with its refusal located, is the outcome as it is handed back
  pub written_back : (o : Outcome (List ℕ)) → back s (written_of o) ≡ filled_of s o
  unfolding back written_of filled_of
  written_back (accepted a) = refl
  written_back (refused r) = refl

  pub counted_back : (o : Outcome ℕ) → back s (counted_of o) ≡ count_of s o
  unfolding back counted_of count_of
  counted_back (accepted n) = refl
  counted_back (refused r) = refl

  pub verdict_back : (a : Result Bool Refusal) → back s a ≡ verdict_of s (outcome_of a)
  unfolding back verdict_of
  verdict_back (Ok same) = refl
  verdict_back (Err r) = refl

  -- what fills lent memory does so as it is handed back
  pub fills_back : {outcome : Outcome (List ℕ)} {before after : List ℕ} {w : Result ℕ Refusal} {r : Result ℕ Located}
      → Fills outcome before after w → r ≡ back s w → FillsOf s outcome before after r
  fills_back {outcome} f e = record { answer = e ∙ ap (back s) f.answer ∙ written_back outcome; memory = f.memory }

  -- a refusal leaves it as it was
  pub refuses_back : {outcome : Outcome (List ℕ)} {x : Refusal} {r : Result ℕ Located} → outcome ≡ refused x → r ≡ Err (located s x)
      → (before : List ℕ) → FillsOf s outcome before before r
  unfolding filled_of filled
  refuses_back e is before = rw (e, is) (record { answer = refl; memory = refl })

-- a refusal of an exercise names no step, so it has no column
pub no_step : (r : Refusal) → OfExercise r.number → located [] r ≡ record { refusal = r; column = 0 }
unfolding located column_of names_step
no_step r (inl e) = rw e
no_step r (inr (inl e)) = rw e
no_step r (inr (inr e)) = rw e

-- so the closure that gives it column 0 locates it
pub exercise_located : (text : List ℕ) (n ordinal room : ℕ) {x : Refusal} {l : Located} → exercise_answer text n ordinal room ≡ refused x
    → l ≡ record { refusal = x; column = 0 } → l ≡ located [] x
exercise_located text n ordinal room {x} e is = is ∙ sym (no_step x (refused_kind (exercise_uses text n ordinal room) e))
