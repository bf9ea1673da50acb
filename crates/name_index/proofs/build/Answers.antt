-- Before the first name every slot is free.
use Rattle.std.proofs.Common.{◌≡◌, length, arith, rules}
use Rattle.definitions.specs.NameIndex.{slot_count, free}
use Rattle.name_index.proofs.Entering.{none_entered}
use Rattle.name_index.proofs.build.Goals as goal

pub loop-i-init : goal.loop-i-init
unfolding slot_count free
loop-i-init c =
    let long : length c.args.slots.now ≡ 1024 = search rules in
    (omega arith, none_entered _ (rw long at c.fill.ensures.after (λ y e. e)))
