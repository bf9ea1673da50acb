-- On a sound sheet the checker answers yes to the sheet's own term, against each number of the root's proposition, from no
-- hypotheses; and refusal 22 does not come before, since every uninstantiated parameter is bound.
use Prim.Native.Nat.{ℕ, zero, suc, ◌<◌}
use mathlib.Core.Path.{◌≡◌, refl}
use mathlib.Core.Bool.{false, ◌||◌}
use Rattle.std.specs.Prelude.{None, Option, Some}
use mathlib.Core.List.{List, [], ◌∷◌}
use borrow.Author.Tests.{lt-leb}
use Rattle.definitions.specs.Outcome.{accepted, ◌>>=◌, refuse_if}
use Rattle.definitions.specs.Name.{Name}
use Rattle.definitions.specs.Prop as prop
use Rattle.definitions.specs.Prop.{Prop}
use Rattle.definitions.specs.AlphaEquality.{nameless}
use Rattle.definitions.specs.Sheet.{name_of, propositions, step_records, step_number}
use Rattle.definitions.specs.Tree as tree
use Rattle.definitions.specs.Tree.{ProofTreeRule, AndIntro, AndElimFst, AndElimSnd, TrueIntro, ImplIntro, ImplElim, OrIntroFst, OrIntroSnd, OrElim, FalsumElim, ForAllIntro, ForAllElim, ExistsIntro, ExistsElim, AlphaEquivalent, ProofTreeConclusion, PropIsTrue, TypeJudgement, Step, ProofTree, over, Premisses, ◌and◌, rename_conclusion, rename_step, rename_tree, rename_premisses, step_in}
use Rattle.definitions.specs.Admission.{admitted}
use Rattle.definitions.specs.Term.{Label, proposition, datatype, ProofTerm}
use Rattle.definitions.specs.Export.{Place, rule_term, premiss_term, step_term}
use Rattle.quantifier_laws.specs.Instantiation.{holds_unbound}
use Rattle.quantifier_laws.specs.Labels as labels
use Rattle.definitions.specs.CheckAnswers.{named_prop, hypothesis_out}
use Rattle.quantifier_laws.specs.Sound.{Sound}
use Rattle.definitions.specs.Checker.{derived}
use Rattle.quantifier_laws.specs.Checker.{check}
use Rattle.quantifier_laws.specs.CheckAnswers.{unbound_label, unbound_parameter, unbound_term, unbound_context, assumed, judgement, sheet_judgement}
use Rattle.std.proofs.lemmas.Bool.{or_from}
use Rattle.quantifier_laws.proofs.Instantiation.{left_false}
use Rattle.checker_laws.proofs.EveryStep.{Every, EveryPremiss, every_step, conclusion_of_lem}
use Rattle.quantifier_laws.proofs.CheckerComplete.{checks_complete}
use Rattle.quantifier_laws.proofs.Conventions.{deduced_shadowing}
use Rattle.quantifier_laws.proofs.Accuracy.{sound_accuracy}

-- every uninstantiated parameter of the conclusion is bound
abbrev Bound : Prop Name → Type 0
Bound p = holds_unbound (nameless [] p) ≡ false

abbrev BoundConclusion : ProofTreeConclusion Name → Type 0
BoundConclusion (PropIsTrue p) = Bound p
BoundConclusion (TypeJudgement x d) = Unit {0}

abbrev BoundStep : Step Name → Type 0
BoundStep z = BoundConclusion z.conclusion

abbrev BoundTerm : ProofTerm Name → Type 0
BoundTerm t = unbound_term t ≡ false

rule_bound : (r : ProofTreeRule) (x y : Name) (l : Option (Label Name)) (a b c : ProofTerm Name)
    → unbound_parameter l ≡ false → BoundTerm a → BoundTerm b → BoundTerm c → BoundTerm (rule_term r x y l a b c)
unfolding rule_term unbound_term
rule_bound AndIntro x y l a b c k f g h = or_from (unbound_term a) (unbound_term b) f g
rule_bound AndElimFst x y l a b c k f g h = f
rule_bound AndElimSnd x y l a b c k f g h = f
rule_bound TrueIntro x y l a b c k f g h = refl
rule_bound ImplIntro x y l a b c k f g h = or_from (unbound_parameter l) (unbound_term a) k f
rule_bound ImplElim x y l a b c k f g h = or_from (unbound_term a) (unbound_term b) f g
rule_bound tree.Ident x y l a b c k f g h = refl
rule_bound OrIntroFst x y l a b c k f g h = f
rule_bound OrIntroSnd x y l a b c k f g h = f
rule_bound OrElim x y l a b c k f g h =
    or_from (unbound_term a) (unbound_term b || unbound_term c) f (or_from (unbound_term b) (unbound_term c) g h)
rule_bound FalsumElim x y l a b c k f g h = f
rule_bound ForAllIntro x y l a b c k f g h = or_from (unbound_parameter l) (unbound_term a) k f
rule_bound ForAllElim x y l a b c k f g h = or_from (unbound_term a) (unbound_term b) f g
rule_bound ExistsIntro x y l a b c k f g h = or_from (unbound_term a) (unbound_term b) f g
rule_bound ExistsElim x y l a b c k f g h = or_from (unbound_term a) (unbound_term b) f g
rule_bound tree.Sorry x y l a b c k f g h = refl
rule_bound AlphaEquivalent x y l a b c k f g h = f

abbrev AllBound : List (ProofTerm Name) → Type 0
AllBound [] = Unit {0}
AllBound (u ∷ us) = BoundTerm u × AllBound us

premiss_bound : (us : List (ProofTerm Name)) (i : ℕ) → AllBound us → BoundTerm (premiss_term us i)
unfolding premiss_term unbound_term
premiss_bound [] i h = refl
premiss_bound (u ∷ us) zero h = h.0
premiss_bound (u ∷ us) (suc i) h = premiss_bound us i h.1

step_bound : (z : Step Name) (l : Option (Label Name)) (us : List (ProofTerm Name)) → unbound_parameter l ≡ false → AllBound us
    → BoundTerm (step_term z l us)
unfolding step_term
step_bound z l us k h =
    rule_bound z.rule z.first.name z.second.name l (premiss_term us 0) (premiss_term us 1) (premiss_term us 2) k
    (premiss_bound us 0 h) (premiss_bound us 1 h) (premiss_bound us 2 h)

left_bound : (p q : Prop Name) → Bound (prop.Impl p q) → Bound p
unfolding nameless holds_unbound
left_bound p q h = left_false (holds_unbound (nameless [] p)) (holds_unbound (nameless [] q)) h

mutual
  unfolding unbound_term unbound_parameter unbound_label

  term_bound : {m : Place} {t : ProofTree Name} {u : ProofTerm Name} → Every BoundStep t → labels.Labelled m t u → BoundTerm u
  term_bound h (labels.unlabelled {z = z} {us = us} e d v) = rw v (step_bound z None us refl (terms_bound h.1 d))
  term_bound h (labels.ascribed {z = z} {us = us} {p = p} e f c d v) =
      rw v
      (or_from (holds_unbound (nameless [] p)) (unbound_term (step_term z None us)) (rw c at h.0)
      (step_bound z None us refl (terms_bound h.1 d)))
  term_bound h (labels.function {z = z} {us = us} {p = p} {q = q} e f c d v) =
      rw v (step_bound z (Some (proposition p)) us (left_bound p q (rw c at h.0)) (terms_bound h.1 d))
  term_bound h (labels.generalisation {z = z} {us = us} {d = t} e f c d v) =
      rw v (step_bound z (Some (datatype t)) us refl (terms_bound h.1 d))

  terms_bound : {ms : List Place} {ps : Premisses Name} {us : List (ProofTerm Name)}
      → EveryPremiss BoundStep ps → labels.AllLabelled ms ps us → AllBound us
  terms_bound h labels.done = tt
  terms_bound h (labels.next d e) = (term_bound h.0 d, terms_bound h.1 e)

-- the same of a tree over numbers
module _ (f : ℕ → Name) where
  abbrev BoundNumbered : Step ℕ → Type 0
  BoundNumbered z = BoundConclusion (rename_conclusion f z.conclusion)

  mutual
    unfolding rename_tree rename_step

    tree_renamed : (t : ProofTree ℕ) → Every BoundNumbered t → Every BoundStep (rename_tree f t)
    tree_renamed (over z ps) h = (h.0, premisses_renamed ps h.1)

    premisses_renamed : (ps : Premisses ℕ) → EveryPremiss BoundNumbered ps → EveryPremiss BoundStep (rename_premisses f ps)
    premisses_renamed tree.none h = tt
    premisses_renamed (t and ps) h = (tree_renamed t h.0, premisses_renamed ps h.1)

root_bound : (s : List ℕ) (d : Sound s) (root : ProofTree ℕ) → admitted s ≡ accepted root → Every (BoundNumbered (name_of s)) root
unfolding step_in rename_conclusion named_prop
root_bound s d root is_admitted =
    every_step (BoundNumbered (name_of s)) s root is_admitted λ k l.
    conclusion_of_lem s root is_admitted k l (λ c. BoundConclusion (rename_conclusion (name_of s) c))
    (λ below. d.bound (step_number (step_records s) k 12) below) (λ x t. tt)

-- yes, against every number of the root's proposition
pub sound_judgement : (s : List ℕ) (d : Sound s) (k : ℕ) → k < propositions s
    → nameless [] (named_prop s k) ≡ nameless [] (deduced_shadowing s d.deduced).prop → sheet_judgement s [] k ≡ accepted (derived tt)
unfolding sheet_judgement judgement hypothesis_out assumed unbound_context ◌>>=◌ refuse_if
sound_judgement s d k l same =
    let weak = deduced_shadowing s d.deduced in
    let a = sound_accuracy s d in
    let bounded = term_bound (tree_renamed (name_of s) weak.root (root_bound s d weak.root weak.is_admitted)) a.labels in
    let yes-answer : check a.term [] 0 (nameless [] (named_prop s k)) ≡ derived tt = rw same (checks_complete a.is_accepted 0) in
    rw (a.is_term, lt-leb (propositions s) k l, bounded, d.bound k l, yes-answer)
