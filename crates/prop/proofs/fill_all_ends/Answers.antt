-- The loop's invariant: the propositions before number i have their ends in the table, and filling in those of number i
-- keeps them.
use mathlib.Core.Path.{◌∙◌}
use native.Mathlib.Omega.{arith}
use Rattle.definitions.proofs.PrefixCode.{Bytes}
use Rattle.prop.proofs.Filling.{room_kept}
use Rattle.prop.proofs.Marks.{present_in, one_more}
use Rattle.prop.proofs.fill_all_ends.Goals as goal
use Rattle.prop.proofs.fill_all_ends.Goals.{At-loop-i}

bytes : (c : At-loop-i) → Bytes c.args.code.now
bytes c k = omega (arith, c.type_inv.code k)

pub fill_ends-requires : goal.fill_ends-requires
fill_ends-requires c =
    let s = c.requires in
    let present = present_in _ _ _ _ (bytes (goal.at.fill_ends-requires c).At-loop-i) s.marks c.loop-i.i c.loop-i-test.true in
    rw c.pair_offset.ensures (record { present = present; room = room_kept c.loop-i.invariant.0 s.room })

pub loop-i-preserved : goal.loop-i-preserved
loop-i-preserved c =
    let below = c.loop-i-test.true in
    let wrote = rw c.pair_offset.ensures at c.fill_ends.ensures in (
      c.fill_ends.auto.ends ∙ c.loop-i.invariant.0,
      one_more _ _ _ _ (bytes (goal.at.loop-i-preserved c).At-loop-i) c.requires.marks c.loop-i.i _ _ _ below wrote c.loop-i.invariant.1,
    )
