-- Every slot is free again.
use mathlib.Core.Path.{◌≡◌}
use lib.ListN.{length, replicate}
use Rattle.definitions.specs.Sheet.{pair_size, name_limit}
use Rattle.definitions.specs.NameIndex.{slot_count, free}
use borrow.Author.Rules.{rules}
use Rattle.words.proofs.Indexing.{no_names}
use Rattle.words.proofs.name_table.NameTable.clear.Goals as goal

pub invariant_of-self : goal.invariant_of-self
unfolding pair_size name_limit slot_count free
invariant_of-self c =
    let filled : c.fill.new.self ≡ replicate (length c.args.self.now.slots) 65535 = search rules in
    let long : length c.args.self.now.slots ≡ 1024 = search rules in
    record { table = no_names c.args.self.now.table.short c.args.self.now.table.room (rw long at filled) }
