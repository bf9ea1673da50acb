-- Each turn of the loop puts one record more over other names.
use mathlib.Core.Path.{◌∙◌}
use native.Mathlib.Omega.{arith}
use Rattle.term_renumbering.proofs.Numbers.{lent_size, row_over, all_over}
use Rattle.term_renumbering.proofs.renumber_records.Goals as goal

pub renumber_record-requires : goal.renumber_record-requires
renumber_record-requires c = lent_size _ _ c.loop-m.records (omega (arith, c.requires, c.loop-m.auto.records)) ∙ omega arith

pub loop-m-preserved : goal.loop-m-preserved
loop-m-preserved c =
    row_over _ _ (omega arith) (omega (arith, c.requires, c.loop-m.auto.records)) c.renumber_record.auto.row c.loop-m.invariant c.renumber_record.ensures

-- the last turn
pub returns-2 : goal.returns-2
returns-2 c =
    let last = row_over _ _ (omega arith) (omega (arith, c.requires, c.loop-m.auto.records)) c.renumber_record.auto.row c.loop-m.invariant c.renumber_record.ensures in
    all_over _ _ last (omega arith)
