-- What is left of the premisses decides what they all come to. The calls end by the step's number.
use Prim.Native.Nat.{ℕ, ◌+◌, ◌≤◌, ◌<◌}
use mathlib.Core.Path.{◌≡◌, refl, sym, ap, ◌∙◌}
use mathlib.Core.Bool.{false}
use native.Mathlib.Omega.{arith}
use lib.ListN.{length, get_or}
use borrow.Author.Rules.{rules}
use Rattle.steps.specs.Size.{sizes}
use Rattle.proof_tree.specs.Premisses.{premisses_from}
use Rattle.definitions.specs.Sheet.{premiss_count}
use Rattle.definitions.specs.Tree.{rule_in}
use Rattle.definitions.specs.Admission.{too_few_trees}
use Rattle.definitions.specs.Export.{row, admits_count}
use Rattle.proof_tree.specs.Table.{mode_of, TableRow}
use Rattle.proof_tree.specs.Exportable.{GoodStep}
use Rattle.proof_tree.specs.Exporting.{ExportableWith}
use Rattle.proof_tree.proofs.Counts.{enough}
use Rattle.proof_tree.proofs.Placing.{counted_refused}
use Rattle.proof_tree.proofs.ReadPremisses.{mode_below, read_none, read_more, read_refused, room_next, read_parts}
use Rattle.proof_tree.proofs.Walking.{term_of, refusal_of, refused_as, size_tree, count_refused, Entered, premiss_refused, step_placed}
use Rattle.proof_tree.proofs.+do_export_as_proof_term.Goals as goal
use Rattle.proof_tree.proofs.+do_export_as_proof_term.Goals.{Start, After-row_of-row, Else-not-admits_count}

-- the steps, and the tree of step k as the table has it
module _ (t : ℕ) where
  good : (c : Start t) {names : ℕ} → let s = c.args.steps.now in ExportableWith names s → GoodStep names s.pairs.now s.code.now s.records.now c.args.k
  good c e = e.good c.args.k c.requires.k_in_bounds

  found : (c : Start t) {names : ℕ} → let s = c.args.steps.now in
      ExportableWith names s → too_few_trees names s.pairs.now s.code.now s.records.now c.args.k ≡ false
  found c e = e.table.enough _ _ _ _ c.requires.k_in_bounds

  is_row : (c : After-row_of-row t) → TableRow (rule_in c.args.steps.now.records.now c.args.k) c.row_of-row.result
  unfolding rule_in
  is_row c = rw c.rule_byte.ensures at c.row_of-row.ensures

  entered : (c : Else-not-admits_count t) {names : ℕ} → let s = c.args.steps.now in
      ExportableWith names s → Entered names s.pairs.now s.code.now s.records.now c.args.k c.row_of-row.result
  entered c e =
      record {
        is_row = is_row (goal.at.Else-not-admits_count t c).After-row_of-row;
        found = found (goal.at.Else-not-admits_count t c).Start e;
        right = rw c.premiss_count.ensures
            at (sym (c.admits_count.ensures _ (is_row (goal.at.Else-not-admits_count t c).After-row_of-row)) ∙ c.if-not-admits_count.false);
      }

  entered_some : (c : Else-not-admits_count t) → let s = c.args.steps.now in
      Entered c.args.steps.now.names s.pairs.now s.code.now s.records.now c.args.k c.row_of-row.result
  entered_some c = entered c c.args.steps.now.exportable

  -- the step has the premisses that are read
  has_premisses : (c : Else-not-admits_count t) → length c.row_of-row.result.modes.now ≤ premiss_count c.args.steps.now.records.now c.args.k
  unfolding admits_count
  has_premisses c = let there = entered_some c in omega (arith, there.is_row.fewest_is, enough (row _).premisses _ there.right)

  -- what is left of the room for step k's tree
  sized : (c : Start t) → let s = c.args.steps.now in
      get_or s.sizes.now c.args.k 0 ≡ 1 + sizes (premisses_from s.names s.pairs.now s.code.now s.records.now c.args.k 0)
  sized c =
      let s = c.args.steps.now in
      s.exportable.table.sizes s.names s.pairs.now s.code.now c.args.k c.requires.k_in_bounds
      ∙ size_tree s.names s.pairs.now s.code.now s.records.now c.args.k

pub returns-then-not-admits_count : goal.returns-then-not-admits_count
returns-then-not-admits_count t c = record {
  changed = λ names e.
      count_refused (mode_of _) (found t (goal.at.returns-then-not-admits_count t c).Start e)
      (rw c.premiss_count.ensures
      at (sym (c.admits_count.ensures _ (is_row t (goal.at.returns-then-not-admits_count t c).After-row_of-row)) ∙ c.if-not-admits_count.true))
      c.at.ensures;
  same_memory = refl;
  same_length = refl;
}

pub loop-i-init : goal.loop-i-init
loop-i-init t c = (λ names e. read_none _ _ _ _ _ _ _ _ _, refl)

pub premiss-requires-clause-position_in_bounds : goal.premiss-requires-clause-position_in_bounds
premiss-requires-clause-position_in_bounds t c =
    let there = (goal.at.premiss-requires-clause-position_in_bounds t c).Else-not-admits_count in
    omega (arith, has_premisses t there)

pub do_export_as_proof_term-requires : goal.do_export_as_proof_term-requires
do_export_as_proof_term-requires t c =
    let at = goal.at.do_export_as_proof_term-requires t c in
    let row = (entered_some t at.Else-not-admits_count).is_row in
    let s = c.args.steps.now in
    let read = c.loop-i.invariant.0 s.names s.exportable in
    let step = c.premiss.ensures in
    let room = room_next row read c.loop-i-test.true step (ap mode_of c.unwrap_or.ensures ∙ mode_below _ _) in
    let within : c.premiss.result < s.count = omega (arith, step.earlier, c.requires.k_in_bounds) in
    let size = s.exportable.table.sizes s.names s.pairs.now s.code.now c.premiss.result within in (
      omega (arith, step.earlier, c.decreases),
      (
        within,
        record {
          room = omega (arith, room, size, sized t at.Start, read.same, c.requires.room_for.room);
          few = omega (arith, room, size, sized t at.Start, c.requires.room_for.few);
        },
      ),
    )

pub returns-in_err-do_export_as_proof_term : goal.returns-in_err-do_export_as_proof_term
returns-in_err-do_export_as_proof_term t c =
    let refuses = c.in_err-do_export_as_proof_term.ensures in
    let s = c.args.steps.now in
    record {
      changed = λ names e.
          let there = entered t (goal.at.returns-in_err-do_export_as_proof_term t c).Else-not-admits_count e in
          refused_as (counted_refused _ (search rules))
          (premiss_refused (mode_of _) there
          (read_refused there.is_row (c.loop-i.invariant.0 names e) c.loop-i-test.true c.premiss.ensures (ap mode_of c.unwrap_or.ensures ∙ mode_below _ _)
          (refusal_of (refuses.changed names e) refl)));
      same_memory = refuses.same_memory ∙ c.loop-i.invariant.1;
      same_length = refuses.same_length ∙ (c.loop-i.invariant.0 s.names s.exportable).same;
    }

pub overflow_sub-parts : goal.overflow_sub-parts
overflow_sub-parts t c =
    let s = c.args.steps.now in omega (arith, (term_of (c.in_ok-do_export_as_proof_term.ensures.changed s.names s.exportable) refl).low)

pub overflow_cast-parts : goal.overflow_cast-parts
overflow_cast-parts t c =
    let at = goal.at.overflow_cast-parts t c in
    let row = (entered_some t at.Else-not-admits_count).is_row in
    let s = c.args.steps.now in
    let room = room_next row (c.loop-i.invariant.0 s.names s.exportable) c.loop-i-test.true c.premiss.ensures (ap mode_of c.unwrap_or.ensures ∙ mode_below _ _) in
    let read = term_of (c.in_ok-do_export_as_proof_term.ensures.changed s.names s.exportable) refl in
    record { fits = omega (arith, room, sized t at.Start, read.high, read.low, c.requires.room_for.few) }

pub loop-i-preserved : goal.loop-i-preserved
loop-i-preserved t c =
    let step = c.premiss.ensures in
    let made = c.in_ok-do_export_as_proof_term.ensures in (
      λ names e.
          let there = entered t (goal.at.loop-i-preserved t c).Else-not-admits_count e in
          read_more there.is_row (c.loop-i.invariant.0 names e) c.loop-i-test.true step
          (ap mode_of c.unwrap_or.ensures ∙ mode_below _ _)
          (term_of (made.changed names e) refl)
          (omega (arith, step.earlier)) made.same_length,
      made.same_memory ∙ c.loop-i.invariant.1,
    )

pub placed_term-requires-clause-row : goal.placed_term-requires-clause-row
placed_term-requires-clause-row t c = (entered_some t (goal.at.placed_term-requires-clause-row t c).Else-not-admits_count).is_row

pub placed_term-requires-clause-parts : goal.placed_term-requires-clause-parts
placed_term-requires-clause-parts t c =
    let at = goal.at.placed_term-requires-clause-parts t c in
    let row = (entered_some t at.Else-not-admits_count).is_row in
    let s = c.args.steps.now in
    let read = c.loop-i.invariant.0 s.names s.exportable in
    read_parts row read (omega (arith, c.loop-i-test.false, read.position))
    (omega (arith, read.high, sized t at.Start, read.same, c.requires.room_for.room))
    (omega (arith, read.high, sized t at.Start, c.requires.room_for.few))

pub returns : goal.returns
returns t c =
    let s = c.args.steps.now in
    let placed = c.placed_term.ensures in
    record {
      changed = λ names e.
          let read = c.loop-i.invariant.0 names e in
          let there = entered t (goal.at.returns t c).Else-not-admits_count e in
          step_placed (mode_of _) there (omega (arith, c.loop-i-test.false, read.position)) read
          (placed.changed names e);
      same_memory = placed.same_memory ∙ c.loop-i.invariant.1;
      same_length = placed.same_length ∙ (c.loop-i.invariant.0 s.names s.exportable).same;
    }
