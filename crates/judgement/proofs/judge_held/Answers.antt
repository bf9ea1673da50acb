-- 31, then 22; then the names are numbered and the rules are asked.
use mathlib.Core.Path.{refl, sym, ap, ◌∙◌}
use lib.Seq.{length-take-le}
use native.Mathlib.Omega.{arith}
use Rattle.definitions.specs.Sheet.{name_limit}
use Rattle.sheet.proofs.Admitted.{its_header, beside_header}
use Rattle.std.specs.Prelude.{Err}
use Rattle.judgement.specs.Asked.{Known}
use Rattle.judgement.proofs.Numbering.{lowest_numbers}
use Rattle.judgement.proofs.Answers.{known, refused-31, refused-22, answered}
use Rattle.judgement.proofs.judge_held.Goals as goal
use Rattle.judgement.proofs.judge_held.Goals.{Else-is_outside}

-- all numbers are the sheet's
are_known : (c : Else-is_outside) → let given = c.args in Known given.sheet.now given.hypotheses.now given.k
are_known c = known _ _ _ c.is_outside.ensures c.if-is_outside.false

pub returns-then-is_outside : goal.returns-then-is_outside
returns-then-is_outside c = ap Err c.at.ensures ∙ refused-31 _ _ _ c.is_outside.ensures c.if-is_outside.true c.requires

pub may_check-requires : goal.may_check-requires
may_check-requires c = record { held_term = c.requires; known = are_known (goal.at.may_check-requires c).Else-is_outside }

pub returns-then-not-may_check : goal.returns-then-not-may_check
returns-then-not-may_check c =
    ap Err c.at-then-not-may_check.ensures ∙ refused-22 (are_known (goal.at.returns-then-not-may_check c).Else-is_outside) c.requires c.may_check.ensures c.if-not-may_check.true

pub slice_bounds-decide-end : goal.slice_bounds-decide-end
unfolding name_limit
slice_bounds-decide-end c =
    let header = c.header-names.ensures in
    sym (length-take-le c.header-names.result.names c.number_names.new.numbers (omega (arith, (its_header (beside_header header.is header.accepted)).in_range.names, c.number_names.ensures.room)))

pub decide-requires : goal.decide-requires
decide-requires c = record {
  held_term = c.requires;
  lowest = lowest_numbers c.header-names.ensures.accepted c.header-names.ensures.is c.number_names.ensures refl;
  known = are_known (goal.at.decide-requires c).Else-is_outside;
}

pub returns : goal.returns
returns c =
    answered (are_known (goal.at.returns c).Else-is_outside) c.requires c.may_check.ensures c.if-not-may_check.false
    c.decide.ensures
