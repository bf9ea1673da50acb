-- The sheet is as long as the old one and the step, and is written where it fits.
use Prim.Native.Nat.{◌+◌}
use mathlib.Core.Path.{◌≡◌, sym, ap}
use native.Mathlib.Omega.{arith}
use borrow.Author.Rules.{rules}
use lib.ListN.{length}
use Rattle.output.proofs.Filling.{too_long, fills}
use Rattle.sheet.proofs.Admitted.{with_header}
use Rattle.restating.specs.Step.{sheet_with}
use Rattle.restating.proofs.Bytes.{sheet_length_with}
use Rattle.restating.proofs.write_sheet.Goals as goal
use Rattle.restating.proofs.write_sheet.Goals.{After-bytes}

end_is : (c : After-bytes) → length (sheet_with c.args.sheet.now c.args.step.now) ≡ length c.bytes.result.now + 20
end_is c =
    omega (arith, sheet_length_with (with_header c.bytes.ensures.accepted) c.args.step.now, ap length c.bytes.ensures.is)

pub returns-then-out-end : goal.returns-then-out-end
returns-then-out-end c =
    rw c.at.ensures (too_long _ _ (omega (arith, end_is (goal.at.returns-then-out-end c).After-bytes)))

pub returns : goal.returns
returns c =
    let long = end_is (goal.at.returns c).After-bytes in
    fills {next = c.put_sheet.new.sink.to} (sym long) (omega arith) (search rules)
