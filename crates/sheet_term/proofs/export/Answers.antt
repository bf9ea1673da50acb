-- The parts of an accepted sheet are what the walk asks for, and its answer at the root is the sheet's.
use Prim.Native.Nat.{◌*◌, ◌<◌}
use mathlib.Core.Path.{◌≡◌, refl}
use native.Mathlib.Omega.{arith}
use lib.ListN.{length}
use borrow.Author.Rules.{rules}
use Rattle.definitions.specs.Sheet.{step_limit}
use Rattle.proof_tree.specs.Exportable.{Exportable}
use Rattle.proof_tree.specs.Exporting.{RoomFor}
use Rattle.proof_tree.proofs.Walking.{term_of}
use Rattle.sheet.proofs.Admitted.{AcceptedSheet, beside_header, code_of_bytes}
use Rattle.sheet_term.proofs.Accepted.{ready}
use Rattle.sheet_term.proofs.Held.{held, is_refused}
use Rattle.sheet_term.proofs.export.Goals as goal
use Rattle.sheet_term.proofs.export.Goals.{After-header-h, After-step_records}

its_sheet : (c : After-header-h) → AcceptedSheet c.args.sized.now c.header-h.result
its_sheet c = rw c.admitted-sheet.ensures.is at (beside_header c.header-h.ensures.is c.header-h.ensures.accepted)

-- the steps can be exported with the sheet's count of names, and there is room
walkable : (c : After-step_records) → length c.sizes-sizes.result.now ≡ step_limit → let h = c.header-h.result in
    (Exportable h.names c.proposition_pairs.result.now c.code_bytes.result.now c.step_records.result.now c.sizes-sizes.result.now h.steps × (0 < h.steps))
    × RoomFor c.args.terms.now (2 * h.steps)
unfolding step_limit
walkable c full =
    rw (c.proposition_pairs.ensures.is, c.code_bytes.ensures.is, c.step_records.ensures.is, c.admitted-sheet.ensures.is)
    (ready (its_sheet (goal.at.After-step_records c).After-header-h) full (search rules) c.sizes-sizes.ensures)

pub invariant_of-steps : goal.invariant_of-steps
unfolding step_limit
invariant_of-steps c =
    record {
      bytes = rw (c.code_bytes.ensures.is, c.admitted-sheet.ensures.is) (code_of_bytes c.args.sized.now c.admitted-sheet.ensures.accepted.bytes);
      exportable = (walkable (goal.at.invariant_of-steps c).After-step_records (search rules)).0.0;
    }

pub export_as_proof_term-requires : goal.export_as_proof_term-requires
unfolding step_limit
export_as_proof_term-requires c =
    let w = walkable (goal.at.export_as_proof_term-requires c).After-step_records (search rules) in record { some_step = w.0.1; room_for = w.1 }

pub overflow_sub-result : goal.overflow_sub-result
unfolding step_limit
overflow_sub-result c =
    let w = walkable (goal.at.overflow_sub-result c).After-step_records (search rules) in
    omega (arith, (term_of (c.in_ok-next.ensures c.header-h.result.names w.0.0) refl).low)

pub returns : goal.returns
unfolding step_limit
returns c =
    let w = walkable (goal.at.returns c).After-step_records (search rules) in
    held (its_sheet (goal.at.returns c).After-header-h)
    c.admitted-sheet.ensures.accepted.bytes (search rules)
    (rw (
      c.proposition_pairs.ensures.is,
      c.code_bytes.ensures.is,
      c.step_records.ensures.is,
      c.admitted-sheet.ensures.is,
    ) at (c.in_ok-next.ensures c.header-h.result.names w.0.0))
    refl

pub returns-in_err-next : goal.returns-in_err-next
unfolding step_limit
returns-in_err-next c =
    let w = walkable (goal.at.returns-in_err-next c).After-step_records (search rules) in
    let no_term = is_refused (its_sheet (goal.at.returns-in_err-next c).After-header-h)
    c.admitted-sheet.ensures.accepted.bytes (search rules)
    (rw (
      c.proposition_pairs.ensures.is,
      c.code_bytes.ensures.is,
      c.step_records.ensures.is,
      c.admitted-sheet.ensures.is,
    ) at (c.in_err-next.ensures c.header-h.result.names w.0.0))
    refl in
    search rules
