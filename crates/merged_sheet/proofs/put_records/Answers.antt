-- The host's steps before step k, the donor's over the merged numbers, and the host's after it.
use Prim.Native.Nat.{◌*◌}
use mathlib.Core.Path.{ap}
use native.Mathlib.Omega.{arith}
use lib.ListN.{length, length-take}
use Rattle.definitions.specs.Sheet.{step_size}
use Rattle.sheet.proofs.Admitted.{AcceptedSheet, beside_header}
use Rattle.equal_conclusions.proofs.Codes.{has_numbers}
use Rattle.merged_sheet.specs.Parts.{records_with}
use Rattle.merged_sheet.proofs.Bytes.{records_long, parts_around, steps_mapped, few_propositions, steps_as}
use Rattle.merged_sheet.proofs.put_records.Goals as goal
use Rattle.merged_sheet.proofs.put_records.Goals.{After-step_records-records}

host : (g : _) → (c : After-step_records-records g) → AcceptedSheet c.args.sheets.now.host.now c.header-h.result
host g c = beside_header c.header-h.ensures.is c.header-h.ensures.accepted

donor : (g : _) → (c : After-step_records-records g) → AcceptedSheet c.args.sheets.now.donor.now c.header-g.result
donor g c = beside_header c.header-g.ensures.is c.header-g.ensures.accepted

pub slice_bounds-before-end : goal.slice_bounds-before-end
unfolding step_size
slice_bounds-before-end g c =
    let is = c.step_records-records.ensures.is in
    omega (arith, length-take (20 * c.args.k) c.step_records-records.result.now, ap length is, records_long c.header-h.ensures.accepted.sheet, c.requires)

pub put_renumbered_steps-requires : goal.put_renumbered_steps-requires
put_renumbered_steps-requires g c =
    let here = (goal.at.put_renumbered_steps-requires g c).After-step_records-records in
    steps_mapped (donor g here) c.args.sheets.now.numbers.now (has_numbers (donor g here) _ c.args.sheets.now.numbered.room) c.step_records-grafted.ensures.is (few_propositions (host g here))

pub returns : goal.returns
unfolding records_with step_size
returns g c =
    let laws = g.met.S.Sink.laws in
    let here = (goal.at.returns g c).After-step_records-records in
    let (before, after) = parts_around (host g here) c.args.k c.step_records-records.ensures.is in
    let grafted = steps_as (host g here) (donor g here) c.args.sheets.now.numbers.now c.step_records-grafted.ensures.is in
    laws.then (rw before at c.put_all.ensures)
    (laws.then (rw grafted at c.put_renumbered_steps.ensures) (rw after at c.put_all-2.ensures))
