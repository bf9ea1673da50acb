-- The tests between refusals 11 and 16, and what they make of the answer.
use Prim.Native.Nat.{ℕ, ◌-◌, ◌<◌}
use mathlib.Core.Path.{◌≡◌, refl, ap, ◌∙◌}
use mathlib.Core.Bool.{Bool, true, false, ◌||◌, not}
use mathlib.Core.List.{List}
use native.Mathlib.Omega.{arith}
use lib.Dec.{leb}
use borrow.Author.Tests.{leb-false}
use Rattle.definitions.specs.declared.Refusal.{Refusal}
use Rattle.std.specs.Prelude.{Result, Err, ℕ}
use Rattle.definitions.specs.Outcome.{Outcome, refused, accepted, refuse, ◌>>=◌, refuse_if}
use Rattle.definitions.specs.Sheet.{step_size, step_limit, tree_nesting_limit, names, propositions, steps, proposition_pairs, code_bytes, step_records, name_of}
use Rattle.definitions.specs.Tree.{height, root_of, rename_conclusion}
use Rattle.definitions.specs.Admission.{admitted, bad_step}
use Rattle.definitions.specs.Answers.{is_in_room}
use Rattle.definitions.specs.Restate.{Given, new_record, bad_given, no_step_left, given_conclusion, restated_sheet, restated, restate_answer}
use Rattle.writer_laws.proofs.Restating.{new_step_bad}
use Rattle.output.specs.Written.{Fills}
use Rattle.output.proofs.Filling.{refuses}
use Rattle.steps.specs.Records.{HasStep}
use Rattle.steps.specs.StepAt.{step_at}
use Rattle.steps.proofs.StepAt.{conclusion_is}
use Rattle.steps.proofs.GoodSteps.{known_conclusion}
use Rattle.sheet.specs.declared.header.Sheet.{Sheet}
use Rattle.sheet.specs.Header.{header_of}
use Rattle.sheet.proofs.Admitted.{AcceptedSheet}
use Rattle.sheet.proofs.RootHeight.{some_step, all_steps}
use Rattle.comparison.specs.Conclusions.{concluded, ConclusionIn, conclusion_comparison}
use Rattle.comparison.proofs.Conclusions.{concluded_step, conclusion_in}
use Rattle.restating.specs.Step.{sheet_with, conclusion_of_step, root_compared, judged}

-- Of an accepted sheet:
module _ {s : List ℕ} {h : Sheet} (a : AcceptedSheet s h) where
  pub last_step : HasStep (step_records s) (h.steps - 1)
  unfolding step_size
  last_step = omega (arith, all_steps a, some_step a)

  -- 23
  pub bad_known : (step : List ℕ) {b : Bool} → b ≡ bad_step h.names h.propositions step 0 → b ≡ bad_step (names s) (propositions s) step 0
  unfolding header_of
  bad_known step e = rw a.header at e

  -- 25 and 19: the two conclusions
  pub root_in : ConclusionIn s (step_at (step_records s) (h.steps - 1)).conclusion
  unfolding header_of
  root_in = let some = a.sheet.in_range.some_step in rw a.header (conclusion_in a.sheet (steps s - 1) (omega arith))

  pub compared : (step : List ℕ) {o : Outcome Bool}
      → o ≡ conclusion_comparison s (step_at (step_records s) (h.steps - 1)).conclusion (step_at step 0).conclusion → o ≡ root_compared s step
  unfolding header_of conclusion_comparison root_compared conclusion_of_step concluded
  compared step e =
      let given = ap (rename_conclusion (name_of s)) (conclusion_is step 0 (names s) (proposition_pairs s) (code_bytes s)) in
      rw (a.header, concluded_step s (steps s - 1), given) at e

pub step_in : (s step : List ℕ) → bad_step (names s) (propositions s) step 0 ≡ false → ConclusionIn s (step_at step 0).conclusion
step_in s step good = known_conclusion _ _ _ 0 good

-- the tests in their order
module _ (s step : List ℕ) where
  pub judged_bad : bad_step (names s) (propositions s) step 0 ≡ true → refuse 23 0 ≡ judged s step
  unfolding judged refuse_if ◌>>=◌ refuse
  judged_bad e = rw e

  module _ (good : bad_step (names s) (propositions s) step 0 ≡ false) where
    pub judged_full : no_step_left s (root_of s) ≡ true → refuse 24 0 ≡ judged s step
    unfolding judged refuse_if ◌>>=◌ refuse
    judged_full e = rw (good, e)

    pub judged_compared : no_step_left s (root_of s) ≡ false → {o : Outcome Bool} → o ≡ root_compared s step → o ≡ judged s step
    unfolding judged refuse_if ◌>>=◌
    judged_compared e same = rw (good, e) same

-- What the tests of the new record make of the answer.
module _ (s : List ℕ) (g : Given) (root : admitted s ≡ accepted (root_of s)) {step : List ℕ} (is : step ≡ new_record g) where
  by_tests : restated s g ≡ (judged s step >>= λ same. refuse_if (not same) 25 0 >>= λ _. accepted (sheet_with s step))
  unfolding restated judged root_compared conclusion_of_step given_conclusion restated_sheet sheet_with refuse_if ◌>>=◌ refuse
  by_tests = rw (root, is, new_step_bad s g) (go (bad_given s g) (no_step_left s (root_of s)) (root_compared s (new_record g)))
    where
      go : (a b : Bool) (o : Outcome Bool) →
          (refuse_if a 23 0 >>= λ _. refuse_if b 24 0 >>= λ _. o >>= λ same. refuse_if (not same) 25 0 >>= λ _. accepted (restated_sheet s g))
          ≡ ((refuse_if a 23 0 >>= λ _. refuse_if b 24 0 >>= λ _. o) >>= λ same. refuse_if (not same) 25 0 >>= λ _. accepted (restated_sheet s g))
      go true b o = refl
      go false true o = refl
      go false false o = refl

  pub tests_refused : {r : Refusal} → refused r ≡ judged s step → (room : ℕ) (before : List ℕ) → Fills (restate_answer s g room) before before (Err r)
  unfolding restate_answer ◌>>=◌
  tests_refused e = refuses (by_tests ∙ rw (← e))

  pub tests_no : accepted false ≡ judged s step → (room : ℕ) (before : List ℕ) → Fills (restate_answer s g room) before before (Err (record { number = 25; place = 0 }))
  unfolding restate_answer ◌>>=◌ refuse_if refuse
  tests_no e = refuses (by_tests ∙ rw (← e))

  pub tests_yes : accepted true ≡ judged s step → (room : ℕ) {before after : List ℕ} {r : Result ℕ Refusal}
      → Fills (is_in_room room (accepted (sheet_with s step))) before after r → Fills (restate_answer s g room) before after r
  unfolding restate_answer ◌>>=◌ refuse_if
  tests_yes e room f = let yes : restated s g ≡ accepted (sheet_with s step) = by_tests ∙ rw (← e) in rw yes f

  -- a yes comes only where there are fewer than 1,024 steps
  pub steps_left : accepted true ≡ judged s step → steps s < step_limit
  unfolding judged refuse_if ◌>>=◌ refuse no_step_left
  steps_left e = leb-false step_limit (steps s) (go (bad_step (names s) (propositions s) step 0) (leb step_limit (steps s)) (leb tree_nesting_limit (height (root_of s))) (root_compared s step) e)
    where
      go : (bad full deep : Bool) (o : Outcome Bool) → accepted true ≡ (refuse_if bad 23 0 >>= λ _. refuse_if (full || deep) 24 0 >>= λ _. o) → full ≡ false
      go true full deep o h = absurd (grind arith)
      go false true deep o h = absurd (grind arith)
      go false false deep o h = refl
