-- Two type judgements, and two conclusions by their kinds.
use Prim.Native.Nat.{ℕ, ◌-◌, ◌<◌}
use mathlib.Core.Path.{◌≡◌, ap, ap₂, ◌∙◌}
use mathlib.Core.Bool.{Bool, true, false}
use mathlib.Core.List.{List}
use native.Mathlib.Omega.{arith}
use borrow.Author.Tests.{eq-eqb, ne_eqb}
use Rattle.definitions.specs.Name.{Name, eq_name}
use Rattle.definitions.specs.Equal.{eq_conclusion}
use Rattle.definitions.specs.Comparison.{eq_identifier}
use Rattle.definitions.specs.Sheet.{step_size, names, propositions, steps, proposition_pairs, code_bytes, step_records, name_of}
use Rattle.definitions.specs.Tree.{ProofTreeConclusion, conclusion_of, prop_of, rename_identifier, rename_conclusion}
use Rattle.definitions.specs.Answers.{named_conclusion}
use Rattle.steps.specs.declared.Judgement.{Judgement}
use Rattle.steps.specs.declared.Conclusion.{Conclusion}
use Rattle.steps.specs.declared.Step.{Step}
use Rattle.steps.specs.declared.Conclusion.TheVariants.{PropIsTrue, TypeJudgement}
use Rattle.steps.specs.Records.{HasStep}
use Rattle.steps.specs.StepAt.{step_at, identifier_of, concluded_in, KnownConclusion}
use Rattle.steps.proofs.StepAt.{conclusion_is}
use Rattle.steps.proofs.GoodSteps.{known_conclusion}
use Rattle.vocabulary.specs.declared.Vocabulary.{Vocabulary}
use Rattle.vocabulary.specs.Vocabulary.{name_in, Names}
use Rattle.sheet.specs.declared.header.Sheet.{Sheet}
use Rattle.sheet.specs.Header.{header_of, vocabulary_of}
use Rattle.sheet.proofs.Admitted.{AcceptedSheet, has_steps, its_header}
use Rattle.sheet.proofs.NamesAndCode.{names_are, names_of}
use Rattle.equal_conclusions.specs.Equality.{same_proposition, same_judgement}

-- two type judgements
module _ (s t : List ℕ) (x y : Judgement) where
  pub other_object : eq_name (name_of s x.object.name) (name_of t y.object.name) ≡ false → false ≡ same_judgement s x t y
  unfolding same_judgement eq_identifier rename_identifier identifier_of
  other_object e = rw e

  module _ (object : eq_name (name_of s x.object.name) (name_of t y.object.name) ≡ true) where
    pub other_id : (x.object.unique_id ≡ y.object.unique_id → ⊥) → false ≡ same_judgement s x t y
    unfolding same_judgement eq_identifier rename_identifier identifier_of
    other_id apart = rw (object, ne_eqb x.object.unique_id y.object.unique_id apart)

    pub by_datatype : x.object.unique_id ≡ y.object.unique_id → {b : Bool} → b ≡ eq_name (name_of s x.datatype) (name_of t y.datatype)
        → b ≡ same_judgement s x t y
    unfolding same_judgement eq_identifier rename_identifier identifier_of
    by_datatype id e = rw (object, eq-eqb x.object.unique_id y.object.unique_id id) e

-- the steps of an accepted sheet
module _ {s : List ℕ} {h : Sheet} (a : AcceptedSheet s h) where
  pub has_step : (k : ℕ) → k < steps s → {records : List ℕ} → records ≡ step_records s → HasStep records k
  unfolding step_size
  has_step k l e = rw e (omega (arith, has_steps a.sheet))

  pub root_below : h.steps - 1 < steps s
  unfolding header_of
  root_below = let some = a.sheet.in_range.some_step in rw a.header (omega arith)

  pub root_is : h.steps - 1 ≡ steps s - 1
  unfolding header_of
  root_is = rw a.header

  pub known : (k : ℕ) → k < steps s → KnownConclusion (names s) (propositions s) (step_at (step_records s) k).conclusion
  known k l = known_conclusion _ _ _ k (a.sheet.good_step k l)

  -- their conclusions, of records that are the sheet's
  pub concluded : (k : ℕ) {step : Step} {records : List ℕ} → step ≡ step_at records k → records ≡ step_records s
      → step.conclusion ≡ (step_at (step_records s) k).conclusion
  concluded k e f = ap (λ z. z.conclusion) (e ∙ ap (λ r. step_at r k) f)

  pub root_concluded : {step : Step} {records : List ℕ} → step ≡ step_at records (h.steps - 1) → records ≡ step_records s
      → step.conclusion ≡ (step_at (step_records s) (steps s - 1)).conclusion
  root_concluded e f = concluded (steps s - 1) (rw root_is at e) f

  -- their names
  module _ {v : Vocabulary} (is : v ≡ vocabulary_of h) where
    pub name_here : {i : ℕ} → i < names s → Names s v i
    name_here l = rw is (names_of a l)

    pub name_is : (i : ℕ) → name_in s v i ≡ name_of s i
    name_is i = ap (λ w. name_in s w i) is ∙ ap (λ (f : ℕ → Name). f i) (names_are (its_header a))

-- the conclusion that a step's numbers stand for
unfoldable named : List ℕ → Conclusion → ProofTreeConclusion Name
named s c = rename_conclusion (name_of s) (concluded_in (names s) (proposition_pairs s) (code_bytes s) c)

named_step : (s : List ℕ) (k : ℕ) → named s (step_at (step_records s) k).conclusion ≡ named_conclusion s k
unfolding named named_conclusion conclusion_of
named_step s k = ap (rename_conclusion (name_of s)) (conclusion_is (step_records s) k (names s) (proposition_pairs s) (code_bytes s))

-- two conclusions, by their kinds
module _ (s t : List ℕ) (k l : ℕ) {left right : Conclusion} (ours : left ≡ (step_at (step_records s) k).conclusion)
    (theirs : right ≡ (step_at (step_records t) l).conclusion) where
  by_kind : {b : Bool} → b ≡ eq_conclusion (named s left) (named t right) → b ≡ eq_conclusion (named_conclusion s k) (named_conclusion t l)
  by_kind e = e ∙ ap₂ eq_conclusion (ap (named s) ours ∙ named_step s k) (ap (named t) theirs ∙ named_step t l)

  pub two_propositions : {p q : ℕ} {b : Bool} → left ≡ PropIsTrue p → right ≡ PropIsTrue q → b ≡ same_proposition s p t q
      → b ≡ eq_conclusion (named_conclusion s k) (named_conclusion t l)
  unfolding named concluded_in rename_conclusion eq_conclusion same_proposition prop_of
  two_propositions e f same = by_kind (rw (e, f) same)

  pub two_judgements : {x y : Judgement} {b : Bool} → left ≡ TypeJudgement x → right ≡ TypeJudgement y → b ≡ same_judgement s x t y
      → b ≡ eq_conclusion (named_conclusion s k) (named_conclusion t l)
  unfolding named concluded_in rename_conclusion eq_conclusion same_judgement
  two_judgements e f same = by_kind (rw (e, f) same)

  pub proposition_and_judgement : {p : ℕ} {y : Judgement} → left ≡ PropIsTrue p → right ≡ TypeJudgement y
      → false ≡ eq_conclusion (named_conclusion s k) (named_conclusion t l)
  unfolding named concluded_in rename_conclusion eq_conclusion
  proposition_and_judgement e f = by_kind (rw (e, f))

  pub judgement_and_proposition : {x : Judgement} {q : ℕ} → left ≡ TypeJudgement x → right ≡ PropIsTrue q
      → false ≡ eq_conclusion (named_conclusion s k) (named_conclusion t l)
  unfolding named concluded_in rename_conclusion eq_conclusion
  judgement_and_proposition e f = by_kind (rw (e, f))
