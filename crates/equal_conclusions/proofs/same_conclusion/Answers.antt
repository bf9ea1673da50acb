-- Two conclusions by their kinds.
use Prim.Native.Nat.{◌-◌}
use mathlib.Core.Path.{◌≡◌, sym, ◌∙◌}
use Rattle.definitions.specs.Sheet.{steps, step_records}
use Rattle.steps.specs.StepAt.{step_at}
use Rattle.sheet.proofs.Admitted.{AcceptedSheet, with_header, beside_header}
use Rattle.equal_conclusions.proofs.Conclusions.{has_step, root_below, root_is, known, concluded, root_concluded, two_propositions, two_judgements, proposition_and_judgement, judgement_and_proposition}
use Rattle.equal_conclusions.proofs.same_conclusion.Goals as goal
use Rattle.equal_conclusions.proofs.same_conclusion.Goals.{After-header-root, After-step_at-theirs}

-- the donor beside its header
donor_at : (c : After-header-root) → AcceptedSheet c.args.sheets.now.donor.now c.header-root.result
donor_at c = beside_header c.header-root.ensures.is c.header-root.ensures.accepted

pub step_at-ours-requires : goal.step_at-ours-requires
step_at-ours-requires c =
    let record { is = is; accepted = accepted } = c.step_records.ensures in
    has_step (with_header accepted) _ c.requires.k_bound is

pub step_at-theirs-requires : goal.step_at-theirs-requires
step_at-theirs-requires c =
    let donor = donor_at (goal.at.step_at-theirs-requires c).After-header-root in
    has_step donor _ (root_below donor) c.step_records-2.ensures.is

-- the conclusion of the host's step, and that of the donor's root
ours : (c : After-step_at-theirs) → c.step_at-ours.result.conclusion
    ≡ (step_at (step_records c.args.sheets.now.host.now) c.args.k).conclusion
ours c = concluded (with_header c.step_records.ensures.accepted) _ c.step_at-ours.ensures c.step_records.ensures.is

theirs : (c : After-step_at-theirs) → c.step_at-theirs.result.conclusion
    ≡ (step_at (step_records c.args.sheets.now.donor.now) (steps c.args.sheets.now.donor.now - 1)).conclusion
theirs c = root_concluded (donor_at (goal.at.After-step_at-theirs c).After-header-root) c.step_at-theirs.ensures c.step_records-2.ensures.is

pub same_propositions-requires : goal.same_propositions-requires
same_propositions-requires c =
    let here = goal.at.same_propositions-requires c in
    let host = with_header c.step_records.ensures.accepted in
    let donor = donor_at here.After-header-root in
    let both = c.in-PropIsTrue-PropIsTrue in record {
      p_bound = (
        (known host _ c.requires.k_bound).proposition _ (sym (ours here.After-step_at-theirs) ∙ both.is-0),
        (known donor _ (rw (root_is donor) at (root_below donor))).proposition _ (sym (theirs here.After-step_at-theirs) ∙ both.is-1),
      );
      numbered = c.requires.numbered;
    }

pub same_judgements-requires : goal.same_judgements-requires
same_judgements-requires c =
    let here = goal.at.same_judgements-requires c in
    let host = with_header c.step_records.ensures.accepted in
    let donor = donor_at here.After-header-root in
    let both = c.in-TypeJudgement-TypeJudgement in (
      (known host _ c.requires.k_bound).judgement _ (sym (ours here.After-step_at-theirs) ∙ both.is-0),
      (known donor _ (rw (root_is donor) at (root_below donor))).judgement _ (sym (theirs here.After-step_at-theirs) ∙ both.is-1),
    )

pub returns-in-PropIsTrue-PropIsTrue : goal.returns-in-PropIsTrue-PropIsTrue
returns-in-PropIsTrue-PropIsTrue c =
    let here = (goal.at.returns-in-PropIsTrue-PropIsTrue c).After-step_at-theirs in
    let both = c.in-PropIsTrue-PropIsTrue in
    two_propositions _ _ _ _ (ours here) (theirs here) both.is-0 both.is-1 c.same_propositions.ensures

pub returns-in-TypeJudgement-TypeJudgement : goal.returns-in-TypeJudgement-TypeJudgement
returns-in-TypeJudgement-TypeJudgement c =
    let here = (goal.at.returns-in-TypeJudgement-TypeJudgement c).After-step_at-theirs in
    let both = c.in-TypeJudgement-TypeJudgement in
    two_judgements _ _ _ _ (ours here) (theirs here) both.is-0 both.is-1 c.same_judgements.ensures

pub returns-in_default : goal.returns-in_default
returns-in_default c =
    let here = (goal.at.returns-in_default c).After-step_at-theirs in
    proposition_and_judgement _ _ _ _ (ours here) (theirs here) c.in_default.is-0 c.in_default.is-1

pub returns-in_default-2 : goal.returns-in_default-2
returns-in_default-2 c =
    let here = (goal.at.returns-in_default-2 c).After-step_at-theirs in
    judgement_and_proposition _ _ _ _ (ours here) (theirs here) c.in_default.is-0 c.in_default.is-1
