-- A step's conclusion by numbers stands for its conclusion, and lies within an accepted sheet; two are compared by their kinds.
use Prim.Native.Nat.{ℕ, ◌<◌}
use mathlib.Core.Path.{◌≡◌, ap}
use mathlib.Core.Bool.{Bool}
use mathlib.Core.List.{List}
use Rattle.definitions.specs.Outcome.{Outcome, accepted}
use Rattle.definitions.specs.Sheet.{names, steps, proposition_pairs, code_bytes, step_records, name_of}
use Rattle.definitions.specs.Tree.{prop_of, conclusion_of, rename_conclusion}
use Rattle.definitions.specs.Comparison.{no, alpha_eq, conclusion_alpha_eq}
use Rattle.definitions.specs.Answers.{named_conclusion}
use Rattle.steps.specs.declared.Judgement.{Judgement}
use Rattle.steps.specs.declared.Conclusion.{Conclusion}
use Rattle.steps.specs.declared.Conclusion.TheVariants.{PropIsTrue, TypeJudgement}
use Rattle.steps.specs.StepAt.{step_at, concluded_in}
use Rattle.steps.proofs.StepAt.{conclusion_is}
use Rattle.steps.proofs.GoodSteps.{known_conclusion}
use Rattle.sheet.specs.Admitted.{Admitted}
use Rattle.comparison.specs.Conclusions.{named_identifier, named_prop, concluded, ConclusionIn, judgement_eq, conclusion_comparison}

pub concluded_step : (s : List ℕ) (k : ℕ) → concluded s (step_at (step_records s) k).conclusion ≡ named_conclusion s k
unfolding concluded named_conclusion conclusion_of
concluded_step s k =
    ap (rename_conclusion (name_of s)) (conclusion_is (step_records s) k (names s) (proposition_pairs s) (code_bytes s))

pub conclusion_in : {s : List ℕ} → Admitted s → (k : ℕ) → k < steps s → ConclusionIn s (step_at (step_records s) k).conclusion
conclusion_in a k below = known_conclusion _ _ _ k (a.good_step k below)

-- two conclusions, by their kinds
module _ (s : List ℕ) {left right : Conclusion} {o : Outcome Bool} where
  pub two_propositions : {p q : ℕ} → left ≡ PropIsTrue p → right ≡ PropIsTrue q → o ≡ alpha_eq (named_prop s p) (named_prop s q)
      → o ≡ conclusion_comparison s left right
  unfolding conclusion_comparison concluded concluded_in rename_conclusion conclusion_alpha_eq named_prop prop_of
  two_propositions l r e = rw (l, r) e

  pub two_judgements : {x y : Judgement} → left ≡ TypeJudgement x → right ≡ TypeJudgement y → o ≡ accepted (judgement_eq s x y)
      → o ≡ conclusion_comparison s left right
  unfolding conclusion_comparison concluded concluded_in rename_conclusion conclusion_alpha_eq judgement_eq named_identifier
  two_judgements l r e = rw (l, r) e

  pub proposition_and_judgement : {p : ℕ} {y : Judgement} → left ≡ PropIsTrue p → right ≡ TypeJudgement y → o ≡ no
      → o ≡ conclusion_comparison s left right
  unfolding conclusion_comparison concluded concluded_in rename_conclusion conclusion_alpha_eq
  proposition_and_judgement l r e = rw (l, r) e

  pub judgement_and_proposition : {x : Judgement} {q : ℕ} → left ≡ TypeJudgement x → right ≡ PropIsTrue q → o ≡ no
      → o ≡ conclusion_comparison s left right
  unfolding conclusion_comparison concluded concluded_in rename_conclusion conclusion_alpha_eq
  judgement_and_proposition l r e = rw (l, r) e
