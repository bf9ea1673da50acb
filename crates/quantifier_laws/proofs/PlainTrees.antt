-- A sound sheet of document 01 has a tree of propositional steps, each of which concludes a proposition without quantifiers.
use Prim.Native.Nat.{ℕ}
use mathlib.Core.Path.{◌≡◌, ◌∙◌}
use mathlib.Core.Bool.{true}
use mathlib.Core.List.{List}
use native.Mathlib.Omega.{arith}
use Rattle.definitions.specs.Outcome.{accepted}
use Rattle.definitions.specs.Sheet.{step_records, step_number}
use Rattle.definitions.specs.Tree as tree
use Rattle.definitions.specs.Tree.{ProofTreeConclusion, PropIsTrue, TypeJudgement, Step, ProofTree, over, Premisses, ◌and◌, rename_conclusion, rename_step, rename_tree, rename_premisses, rules, step_in, rule_of, conclusion_of}
use Rattle.definitions.specs.Admission.{admitted}
use Rattle.definitions.specs.Sound.{is_propositional, is_proposition, Sound}
use Rattle.checker_laws.proofs.EveryStep.{Every, EveryPremiss, every_step, conclusion_of_lem}
use Rattle.definitions.proofs.Shape.{quantifier_free_same}
use Rattle.quantifier_laws.proofs.QuantifierFree.{Free}

-- a propositional step that concludes a proposition without quantifiers
abbrev pub PlainConclusion : {N : Type 0} → ProofTreeConclusion N → Type 0
PlainConclusion (PropIsTrue p) = Free p
PlainConclusion (TypeJudgement x d) = ⊥

pub record PlainStep {N : Type 0} (z : Step N) : Type 0 where
  pub rule : is_propositional z.rule ≡ true
  pub conclusion : PlainConclusion z.conclusion

abbrev pub PlainTree : {N : Type 0} → ProofTree N → Type 0
PlainTree t = Every PlainStep t

abbrev pub PlainPremisses : {N : Type 0} → Premisses N → Type 0
PlainPremisses ps = EveryPremiss PlainStep ps

-- a change of names changes none of this
module _ {N M : Type 0} (f : N → M) where
  conclusion_renamed : (c : ProofTreeConclusion N) → PlainConclusion c → PlainConclusion (rename_conclusion f c)
  unfolding rename_conclusion
  conclusion_renamed (PropIsTrue p) h = quantifier_free_same f p ∙ h
  conclusion_renamed (TypeJudgement x d) h = h

  mutual
    unfolding rename_tree rename_step

    pub plain_renamed : (t : ProofTree N) → PlainTree t → PlainTree (rename_tree f t)
    plain_renamed (over z ps) h =
        (record { rule = h.0.rule; conclusion = conclusion_renamed z.conclusion h.0.conclusion }, all_renamed ps h.1)

    all_renamed : (ps : Premisses N) → PlainPremisses ps → PlainPremisses (rename_premisses f ps)
    all_renamed tree.none h = tt
    all_renamed (t and ps) h = (plain_renamed t h.0, all_renamed ps h.1)

-- document 01's sound sheet has a plain tree
pub sound_plain : (s : List ℕ) → Sound s → (root : ProofTree ℕ) → admitted s ≡ accepted root → PlainTree root
unfolding step_in rule_of conclusion_of is_proposition
sound_plain s d root is_admitted =
    every_step PlainStep s root is_admitted
    (λ k l. record {
      rule = d.rules k l;
      conclusion = conclusion_of_lem s root is_admitted k l (λ c. is_proposition c ≡ true → PlainConclusion c)
          (λ below e. d.props (step_number (step_records s) k 12) below)
          (λ x t e. absurd (grind arith)) (d.conclusions k l);
    })
