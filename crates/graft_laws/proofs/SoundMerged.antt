-- Sound sheets merge soundly, where no hypothesis that the donor adds has the name of one in scope at the sorry.
use Prim.Native.Nat.{ℕ, ◌+◌, ◌-◌, ◌<◌}
use mathlib.Core.Path.{◌≡◌, refl, sym, ap, ◌∙◌}
use mathlib.Core.Bool.{Bool, true, false, cond}
use mathlib.Core.List.{List, []}
use native.Mathlib.Omega.{arith}
use native.Mathlib.Decide.{dec_lt}
use lib.Dec.{eqb}
use Rattle.definitions.specs.Name.{Name}
use Rattle.definitions.specs.Prop.{Prop}
use Rattle.definitions.specs.Sheet as sheet
use Rattle.definitions.specs.Sheet.{step_number, name_of}
use Rattle.definitions.specs.Tree.{Identifier, PropIsTrue, TypeJudgement, Step, ProofTree, over, Premisses, none, ◌and◌, rename_step, rename_tree, rename_premisses, rule_of, conclusion_in, conclusion_of, prop_of, step_in, step_over, tree_in, tree_of, root_of}
use Rattle.definitions.specs.Answers.{named_conclusion}
use Rattle.definitions.specs.Sound.{Deduction, documented, is_propositional, is_quantifier_free, is_proposition, Deduced, Sound}
use Rattle.definitions.specs.Graft.{renumbered, merged_sheet, merged, graft_answer}
use Rattle.definitions.proofs.Readings.{Bytes}
use Rattle.definitions.proofs.Shape.{quantifier_free_same}
use Rattle.definitions.proofs.Conventions.{concludes}
use Rattle.graft_laws.specs.Scope.{NoClash}
use Rattle.graft_laws.proofs.Trees.{graft_tree, named_tree}
use Rattle.writer_laws.proofs.Checks.{admitted_checks}
use Rattle.writer_laws.proofs.Records.{same_rule, same_number}
use Rattle.graft_laws.proofs.Plugging.{OnlyStep, OnlyAmong}
use Rattle.graft_laws.proofs.GraftTrees.{only_there}
use Rattle.graft_laws.proofs.MergedSheet.{Grafts, host_prop, donor_prop, merged_propositions}
use Rattle.graft_laws.proofs.MergedSteps.{donor_rule, number_10}
use Rattle.graft_laws.proofs.GraftSheets.{steps_of, one_root, moved, rows, by_rows}
use Rattle.graft_laws.proofs.MergedChecks.{merged_root}
use Rattle.graft_laws.proofs.MergedAdmitted.{merged_admitted}
use Rattle.graft_laws.proofs.Answered.{Merged, answered}
use Rattle.graft_laws.proofs.Alike.{deduced_alike, alike_untidied, alike_tidied, alike_grafted}
use Rattle.graft_laws.proofs.Weakening.{Unnamed}
use Rattle.graft_laws.proofs.GraftDeduced.{graft_deduced}

-- step k of a tree over names as bytes
module _ (k : ℕ) (z₀ : Step ℕ) (n : ℕ → Name) where
  mutual
    unfolding OnlyStep rename_tree rename_step

    only_renamed : (t : ProofTree ℕ) → OnlyStep k z₀ t → OnlyStep k (rename_step n z₀) (rename_tree n t)
    only_renamed (over z ps) only = ((λ e. ap (rename_tree n) (only.0 e)), all_renamed ps only.1)

    all_renamed : (ps : Premisses ℕ) → OnlyAmong k z₀ ps → OnlyAmong k (rename_step n z₀) (rename_premisses n ps)
    all_renamed none only = tt
    all_renamed (t and ps) only = (only_renamed t only.0, all_renamed ps only.1)

-- a conclusion is a proposition where its kind is 0
by_kind : (s : List ℕ) (k : ℕ) → is_proposition (conclusion_of s k) ≡ eqb (step_number (sheet.step_records s) k 10) 0
unfolding conclusion_of conclusion_in is_proposition
by_kind s k = go (eqb (step_number (sheet.step_records s) k 10) 0) _ _ _
  where
    go : (b : Bool) (p : Prop ℕ) (x : Identifier ℕ) (t : ℕ) → is_proposition (cond b (PropIsTrue p) (TypeJudgement x t)) ≡ b
    go true p x t = refl
    go false p x t = refl

-- the deduction of a sound sheet, from its own root
root_deduction : (s : List ℕ) (d : Deduced documented s) → Deduction documented [] (rename_tree (name_of s) (root_of s)) d.prop
root_deduction s d = rw (← (admitted_checks s d.root d.is_admitted).1) d.deduction

root_concludes : (s : List ℕ) (a : Prop Name) → Deduction documented [] (rename_tree (name_of s) (root_of s)) a
    → named_conclusion s (sheet.steps s - 1) ≡ PropIsTrue a
unfolding named_conclusion conclusion_of root_of tree_of tree_in step_over rename_tree rename_step step_in
root_concludes s a d = concludes d

module _ {h d : List ℕ} {k : ℕ} {m : List ℕ} (a : Merged h d k m) (host : Sound h) (donor : Sound d) (apart : NoClash h d k) where
  abbrev M : List ℕ
  M = merged_sheet h d k

  abbrev g : Grafts h d k
  g = a.grafts

  abbrev host_root : ProofTree Name
  host_root = rename_tree (name_of h) (root_of h)

  abbrev donor_root : ProofTree Name
  donor_root = rename_tree (name_of d) (root_of d)

  sorry_concludes : (rename_step (name_of h) (steps_of h k)).conclusion ≡ PropIsTrue donor.deduced.prop
  unfolding rename_step step_in named_conclusion conclusion_of
  sorry_concludes = a.same ∙ root_concludes d donor.deduced.prop (root_deduction d donor.deduced)

  joined : Deduction documented [] (graft_tree k donor_root host_root) host.deduced.prop
  unfolding NoClash Unnamed
  joined =
      graft_deduced k (rename_step (name_of h) (steps_of h k)) donor.deduced.prop sorry_concludes donor_root
      (root_deduction d donor.deduced) (root_deduction h host.deduced)
      (only_renamed k (steps_of h k) (name_of h) (root_of h) (only_there (rows g) (root_of h) (one_root h g.host))) apart (λ x i. tt)

  -- the merged root is a deduction
  merged_deduction : Deduction documented [] (rename_tree (name_of M) (root_of M)) host.deduced.prop
  unfolding named_tree
  merged_deduction =
      let w = rows g in
      let donors = alike_tidied (name_of d) (λ n. k + n) (root_of d) in
      let merges = deduced_alike joined (alike_grafted (name_of h) (moved k (sheet.steps d)) k w.fixed w.others donors (root_of h)) in
      deduced_alike (rw (← (merged_root g)) at merges) (alike_untidied (name_of M) (root_of M))

  sound_rules : (i : ℕ) → i < sheet.steps M → is_propositional (rule_of M i) ≡ true
  unfolding rule_of
  sound_rules =
      by_rows g (λ i. is_propositional (rule_of M i) ≡ true)
      (λ i j same l. ap is_propositional (same_rule same) ∙ host.rules j l)
      (λ i j same l. ap is_propositional (donor_rule g i j same l) ∙ donor.rules j l)

  sound_conclusions : (i : ℕ) → i < sheet.steps M → is_proposition (conclusion_of M i) ≡ true
  unfolding sheet.step_size
  sound_conclusions =
      by_rows g (λ i. is_proposition (conclusion_of M i) ≡ true)
      (λ i j same l. by_kind M i ∙ (ap (λ (n : ℕ). eqb n 0) (same_number same 10 (omega arith)) ∙ (sym (by_kind h j) ∙ host.conclusions j l)))
      (λ i j same l. by_kind M i ∙ (ap (λ (n : ℕ). eqb n 0) (number_10 g i j same l) ∙ (sym (by_kind d j) ∙ donor.conclusions j l)))

  sound_props : (i : ℕ) → i < sheet.propositions M → is_quantifier_free (prop_of M i) ≡ true
  sound_props i l = go (dec_lt i (sheet.propositions h))
    where
      go : Dec (i < sheet.propositions h) → is_quantifier_free (prop_of M i) ≡ true
      go (yes b) = ap is_quantifier_free (host_prop g i b) ∙ host.props i b
      go (no b) =
          let j = i - sheet.propositions h in
          let z : sheet.propositions h + j ≡ i = omega arith in
          let below : j < sheet.propositions d = omega (arith, merged_propositions g) in
          rw (← z) (ap is_quantifier_free (donor_prop g j below) ∙ (quantifier_free_same (renumbered h d) (prop_of d j) ∙ donor.props j below))

  merged_is_sound : Sound M
  merged_is_sound =
      record {
        deduced =
            record {
              root = root_of M;
              is_admitted = merged_admitted g a.fits;
              prop = host.deduced.prop;
              deduction = merged_deduction;
            };
        rules = sound_rules;
        props = sound_props;
        conclusions = sound_conclusions;
      }

  pub sound_merge : Sound m
  sound_merge = rw a.is_merged merged_is_sound

-- the law: a graft of sound sheets that is not refused is sound, where names do not clash
pub sound_merged : (h d : List ℕ) (k room : ℕ) (m : List ℕ) → Bytes h → Bytes d → graft_answer h d k room ≡ merged m
    → Sound h → Sound d → NoClash h d k → Sound m
sound_merged h d k room m host_bytes donor_bytes is host donor apart = sound_merge (answered h d k room m host_bytes donor_bytes is) host donor apart
