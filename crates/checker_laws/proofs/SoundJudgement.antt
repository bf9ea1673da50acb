-- On a sound sheet the checker answers yes to the sheet's own term against each number of the root's proposition, from no hypotheses.
use Prim.Native.Nat.{ℕ, ◌-◌, ◌<◌}
use native.Mathlib.Omega.{arith}
use mathlib.Core.Path.{◌≡◌, sym, ap, ◌∙◌}
use mathlib.Core.Bool.{Bool, true, false, cond, true≢false, and-eq-true_iff}
use mathlib.Core.List.{List, []}
use borrow.Author.Tests.{lt-leb}
use Rattle.definitions.specs.Outcome.{accepted, refuse, ◌>>=◌, refuse_if}
use Rattle.definitions.specs.Name.{Name}
use Rattle.definitions.specs.Prop.{Prop, True, False, Binary, Atom, Quantified, impl, eq_connective, as_binary, as_quantified}
use Rattle.definitions.specs.Sheet.{propositions, steps, step_records, step_number, name_of}
use Rattle.definitions.specs.Tree as tree
use Rattle.definitions.specs.Tree.{ProofTreeConclusion, PropIsTrue, TypeJudgement, Step, ProofTree, over, Premisses, ◌and◌, rename_conclusion, rename_step, rename_tree, rename_premisses, step_in, step_over, tree_in, tree_of, root_of, prop_of}
use Rattle.definitions.specs.Admission.{admitted}
use Rattle.definitions.specs.Term.{Label, proposition, ProofTerm}
use Rattle.definitions.specs.Export.{checking, export, left_label, implication_label, datatype_label, universal_label, ascription_label}
use Rattle.definitions.specs.Answers.{sheet_term, named_term}
use Rattle.definitions.specs.Checker.{derived}
use Rattle.definitions.specs.Sound.{Deduction, documented, is_quantifier_free, Sound}
use Rattle.definitions.specs.CheckAnswers.{is_checkable_label, is_checkable, all_quantifier_free, named_prop, hypothesis_out, assumed, judgement, sheet_judgement}
use Rattle.definitions.proofs.Renaming.{export_same}
use Rattle.definitions.proofs.Conventions.{same_prop, concludes}
use Rattle.definitions.proofs.Accuracy.{sound_accuracy}
use Rattle.writer_laws.proofs.Checks.{admitted_checks}
use Rattle.reading_laws.proofs.ExportLimits.{apart, GoodStep, GoodTree, GoodTrees, export_each}
use Rattle.checker_laws.specs.Judgements.{root_number}
use Rattle.checker_laws.proofs.EveryStep.{Every, EveryPremiss, every_step, some_step, conclusion_of_lem}
use Rattle.definitions.proofs.Shape.{quantifier_free_same}
use Rattle.checker_laws.proofs.Checkable.{CheckableLabel, CheckableLabels, checks_checkable}

-- a conclusion that is a proposition is without quantifiers
abbrev Plain : ProofTreeConclusion Name → Type 0
Plain (PropIsTrue p) = is_quantifier_free p ≡ true
Plain (TypeJudgement x t) = Unit {0}

-- The labels that such a conclusion gives pass refusal 22.
module _ (k : ℕ) (l : Label Name) where
  given : (p : Prop Name) → is_quantifier_free p ≡ true → accepted (proposition p) ≡ accepted l → CheckableLabel l
  unfolding is_checkable_label
  given p h e = let is : l ≡ proposition p = cc in rw is h

  own_passes : (c : ProofTreeConclusion Name) → Plain c → ascription_label k c ≡ accepted l → CheckableLabel l
  unfolding ascription_label refuse
  own_passes (PropIsTrue p) h e = given p h e
  own_passes (TypeJudgement x t) h e = absurd (apart l e)

  side_passes : (p : Prop Name) → is_quantifier_free p ≡ true → implication_label k (as_binary p) ≡ accepted l → CheckableLabel l
  unfolding implication_label as_binary is_quantifier_free refuse
  side_passes True h e = absurd (apart l e)
  side_passes False h e = absurd (apart l e)
  side_passes (Binary c p q) h e = go (eq_connective c impl) e ((and-eq-true_iff (is_quantifier_free p) (is_quantifier_free q)).0 h).0
    where
      go : (b : Bool) → cond b (accepted (proposition p)) (refuse 14 k) ≡ accepted l → is_quantifier_free p ≡ true → CheckableLabel l
      go true e h = given p h e
      go false e h = absurd (apart l e)
  side_passes (Atom a ps) h e = absurd (apart l e)
  side_passes (Quantified q x t p) h e = absurd (apart l e)

  left_passes : (c : ProofTreeConclusion Name) → Plain c → left_label k c ≡ accepted l → CheckableLabel l
  unfolding left_label refuse
  left_passes (PropIsTrue p) h e = side_passes p h e
  left_passes (TypeJudgement x t) h e = absurd (apart l e)

  -- it is no ∀
  no_universal : (p : Prop Name) → is_quantifier_free p ≡ true → universal_label k (as_quantified p) ≡ accepted l → CheckableLabel l
  unfolding universal_label as_quantified is_quantifier_free refuse
  no_universal True h e = absurd (apart l e)
  no_universal False h e = absurd (apart l e)
  no_universal (Binary c p q) h e = absurd (apart l e)
  no_universal (Atom a ps) h e = absurd (apart l e)
  no_universal (Quantified q x t p) h e = absurd (true≢false (sym h))

  no_datatype : (c : ProofTreeConclusion Name) → Plain c → datatype_label k c ≡ accepted l → CheckableLabel l
  unfolding datatype_label refuse
  no_datatype (PropIsTrue p) h e = no_universal p h e
  no_datatype (TypeJudgement x t) h e = absurd (apart l e)

plain_step : (z : Step Name) → Plain z.conclusion → GoodStep CheckableLabel (λ x. Unit {0}) z
plain_step z h =
    record {
      first_name = λ many. tt;
      second_name = λ many. tt;
      left = λ l e. left_passes z.number l z.conclusion h e;
      object = λ l e. no_datatype z.number l z.conclusion h e;
      own = λ l e. own_passes z.number l z.conclusion h e;
    }

-- With names as bytes:
module _ (f : ℕ → Name) where
  abbrev PlainStep : Step ℕ → Type 0
  PlainStep z = Plain (rename_conclusion f z.conclusion)

  mutual
    unfolding rename_tree rename_step GoodTree

    good_tree : (t : ProofTree ℕ) → Every PlainStep t → GoodTree CheckableLabel (λ x. Unit {0}) (rename_tree f t)
    good_tree (over z ps) h = (plain_step (rename_step f z) h.0, good_trees ps h.1)

    good_trees : (ps : Premisses ℕ) → EveryPremiss PlainStep ps → GoodTrees CheckableLabel (λ x. Unit {0}) (rename_premisses f ps)
    good_trees tree.none h = tt
    good_trees (t and ps) h = (good_tree t h.0, good_trees ps h.1)

-- Of a sheet without quantifiers that is admitted:
module _ (s : List ℕ) (free : (i : ℕ) → i < propositions s → is_quantifier_free (prop_of s i) ≡ true)
    (root : ProofTree ℕ) (e : admitted s ≡ accepted root) where
  plain_root : Every (PlainStep (name_of s)) root
  unfolding step_in rename_conclusion
  plain_root =
      every_step (PlainStep (name_of s)) s root e λ k l.
      conclusion_of_lem s root e k l (λ c. Plain (rename_conclusion (name_of s) c))
      (λ below. quantifier_free_same (name_of s) (prop_of s (step_number (step_records s) k 12)) ∙ free (step_number (step_records s) k 12) below)
      (λ x t. tt)

  labels_pass : (u : ProofTerm Name) → named_term s ≡ accepted u → CheckableLabels u
  unfolding named_term sheet_term ◌>>=◌
  labels_pass u is_term =
      let exported : export (rename_tree (name_of s) root) checking ≡ accepted u =
      export_same (name_of s) root checking ∙ rw e at is_term in
      export_each CheckableLabel (λ x. Unit {0}) (rename_tree (name_of s) root) checking u exported (good_tree (name_of s) root plain_root)

pub sound_judgement : (s : List ℕ) (d : Sound s) (k : ℕ) → k < propositions s → named_prop s k ≡ d.deduced.prop
    → sheet_judgement s [] k ≡ accepted (derived tt)
unfolding sheet_judgement judgement ◌>>=◌ refuse_if hypothesis_out assumed all_quantifier_free named_prop
sound_judgement s d k below same =
    let a = sound_accuracy s d in
    let checkable : is_checkable a.term ≡ true =
    checks_checkable a.is_accepted (labels_pass s d.props d.deduced.root d.deduced.is_admitted a.term a.is_term) in
    let free : is_quantifier_free (named_prop s k) ≡ true = quantifier_free_same (name_of s) (prop_of s k) ∙ d.props k below in
    rw (a.is_term, lt-leb _ _ below, checkable, free, same ∙ same_prop s d.deduced) (ap accepted a.judged)

-- the root of a sound sheet concludes the proposition of that number
root_number_lem : (s : List ℕ) (d : Sound s) → (root_number s < propositions s) × (named_prop s (root_number s) ≡ d.deduced.prop)
unfolding named_prop root_number root_of tree_of tree_in step_over step_in rename_tree rename_step rename_conclusion
root_number_lem s d =
    let e = d.deduced.is_admitted in
    let root = d.deduced.root in
    let p = d.deduced.prop in
    let last = steps s - 1 in
    let is_root = (admitted_checks s root e).1 in
    let own : Deduction documented [] (rename_tree (name_of s) (root_of s)) p = rw is_root at d.deduced.deduction in
    let some = some_step s root e in
    conclusion_of_lem s root e last (omega arith)
    (λ c. rename_conclusion (name_of s) c ≡ PropIsTrue p → (root_number s < propositions s) × (named_prop s (root_number s) ≡ p))
    (λ below is. (below, (cc))) (λ x t is. absurd (grind arith)) (concludes own)

-- demand 3, of the checker: on a sound sheet it answers yes to the sheet's own term against the root's proposition
pub sound_yes : (s : List ℕ) → Sound s → sheet_judgement s [] (root_number s) ≡ accepted (derived tt)
sound_yes s d = let (below, same) = root_number_lem s d in sound_judgement s d (root_number s) below same
