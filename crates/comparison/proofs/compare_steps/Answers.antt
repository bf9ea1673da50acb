-- 17 is tested for both numbers; then the two conclusions decide.
use Prim.Native.Nat.{◌<◌}
use mathlib.Core.Logic.{inl, inr, ⊎_elim}
use Rattle.definitions.specs.Outcome.{refuse}
use Rattle.definitions.specs.Sheet.{steps}
use Rattle.sheet.specs.Admitted.{Accepted}
use Rattle.comparison.proofs.Codes.{has_step, has_no_step, step_there}
use Rattle.comparison.proofs.Conclusions.{conclusion_in}
use Rattle.comparison.proofs.Steps.{no_such_step, both_steps}
use Rattle.comparison.proofs.compare_steps.Goals as goal
use Rattle.comparison.proofs.compare_steps.Goals.{Else-steps-j}

-- both numbers are those of steps
record Both (c : Else-steps-j) : Type 0 where
  sheet : Accepted c.args.sheet.now
  first : c.args.i < steps c.args.sheet.now
  second : c.args.j < steps c.args.sheet.now

both : (c : Else-steps-j) → Both c
both c =
    let header = c.header-steps.ensures in
    record {
      sheet = header.accepted;
      first = has_step _ header.is c.if-steps-i.false;
      second = has_step _ header.is c.if-steps-j.false;
    }

pub returns-then-steps-i : goal.returns-then-steps-i
unfolding refuse
returns-then-steps-i c =
    let header = c.header-steps.ensures in
    rw c.at.ensures
    (no_such_step header.accepted _ _
    (⊎_elim (λ first. inl (has_no_step _ header.is first)) (λ second. inr (has_no_step _ header.is second.1)) c.then-steps-i.either))

pub step_at-left-requires : goal.step_at-left-requires
step_at-left-requires c =
    let b = both (goal.at.step_at-left-requires c).Else-steps-j in rw c.step_records-records.ensures.is (step_there b.sheet b.first)

pub step_at-right-requires : goal.step_at-right-requires
step_at-right-requires c =
    let b = both (goal.at.step_at-right-requires c).Else-steps-j in rw c.step_records-records.ensures.is (step_there b.sheet b.second)

pub compare_conclusions-requires : goal.compare_conclusions-requires
compare_conclusions-requires c =
    let b = both (goal.at.compare_conclusions-requires c).Else-steps-j in
    rw (c.step_at-left.ensures, c.step_at-right.ensures, c.step_records-records.ensures.is)
    (conclusion_in b.sheet.sheet _ b.first, conclusion_in b.sheet.sheet _ b.second)

pub returns : goal.returns
returns c =
    let b = both (goal.at.returns c).Else-steps-j in
    both_steps b.sheet _ _ b.first b.second
    (rw (c.step_at-left.ensures, c.step_at-right.ensures, c.step_records-records.ensures.is) at c.compare_conclusions.ensures)
