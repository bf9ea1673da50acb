-- The label of a parameter first, then the rule's term, then an ascription.
use Prim.Native.Nat.{ℕ}
use mathlib.Core.Path.{refl, ◌∙◌}
use native.Mathlib.Omega.{arith}
use borrow.Author.Rules.{rules}
use Rattle.proof_tree.specs.Exportable.{GoodStep}
use Rattle.proof_tree.specs.Labelling.{LabelOf}
use Rattle.proof_tree.proofs.Concluding.{means, stated}
use Rattle.proof_tree.proofs.Placing.{Visited, concluded, label, label_of, label_refused, counted_refused, term_answer, ascription, ascribed_answer}
use Rattle.proof_tree.proofs.placed_term.Goals as goal
use Rattle.proof_tree.proofs.placed_term.Goals.{After-step_at-step, In_ok-label}

visited : (c : After-step_at-step) {names : ℕ} → let s = c.args in
    GoodStep names s.steps.now.pairs.now s.steps.now.code.now s.steps.now.records.now s.k
    → Visited names s.steps.now.pairs.now s.steps.now.code.now s.steps.now.records.now s.k s.mode s.row c.ending_in-ending.result c.step_at-step.result
visited c good =
    record {
      good = good;
      is_row = c.requires.row;
      ends = c.ending_in-ending.ensures;
      bytes = c.args.steps.now.bytes;
      is_step = c.step_at-step.ensures;
    }

-- the label of a parameter
its_label : (c : In_ok-label) {names : ℕ} → let s = c.args in
    (good : GoodStep names s.steps.now.pairs.now s.steps.now.code.now s.steps.now.records.now s.k)
    → LabelOf names s.steps.now.pairs.now s.steps.now.code.now c.step_at-step.result.conclusion (label (visited (goal.at.In_ok-label c).After-step_at-step good)) c.in_ok-label.label
its_label c good =
    let v = visited (goal.at.In_ok-label c).After-step_at-step good in
    label_of (c.in_ok-label.ensures _ _ (means v.good v.bytes (concluded v)))

pub invariant_of-conclusion : goal.invariant_of-conclusion
invariant_of-conclusion c =
    let v = visited (goal.at.invariant_of-conclusion c).After-step_at-step (c.args.steps.now.exportable.good _ c.requires.k_in_bounds) in
    record { bytes = v.bytes; stated = stated v.good v.bytes (concluded v) }

pub returns-in_default : goal.returns-in_default
returns-in_default c =
    let made = c.rule_term.ensures in
    record {
      changed = λ names e.
          let good = e.good _ c.requires.k_in_bounds in
          term_answer (visited (goal.at.returns-in_default c).After-step_at-step good) (its_label (goal.at.returns-in_default c).In_ok-label good) made.changed c.in_default.not-Ascribed;
      same_memory = made.same_memory;
      same_length = made.same_length;
    }

pub wrap_into_type_ascription-requires : goal.wrap_into_type_ascription-requires
wrap_into_type_ascription-requires c =
    let v = visited (goal.at.wrap_into_type_ascription-requires c).After-step_at-step (c.args.steps.now.exportable.good _ c.requires.k_in_bounds) in
    let made = c.rule_term.ensures.changed in
    let room = c.requires.parts.1 in
    let same = c.rule_term.ensures.same_length in (
      v.good.few,
      record { room = omega (arith, made.few, room.room, same); few = omega (arith, made.few, room.few) },
      made.some_record,
    )

pub returns-in_err-label : goal.returns-in_err-label
returns-in_err-label c = record {
  changed = λ names e.
      let good = e.good _ c.requires.k_in_bounds in
      let v = visited (goal.at.returns-in_err-label c).After-step_at-step good in
      label_refused v _ (c.in_err-label.ensures _ _ (means v.good v.bytes (concluded v))) (counted_refused _ (search rules));
  same_memory = refl;
  same_length = refl;
}

pub returns : goal.returns
returns c =
    let made = c.rule_term.ensures in
    let wraps = c.wrap_into_type_ascription.ensures in
    record {
      changed = λ names e.
          let good = e.good _ c.requires.k_in_bounds in
          let v = visited (goal.at.returns c).After-step_at-step good in
          ascribed_answer v (its_label (goal.at.returns c).In_ok-label good) made.changed c.in-Ascribed.is
          (ascription (means v.good v.bytes (concluded v)) wraps.changed);
      same_memory = wraps.same_memory ∙ made.same_memory;
      same_length = wraps.same_length ∙ made.same_length;
    }
