-- Every slot is free.
use Rattle.definitions.specs.Sheet.{pair_size, name_limit}
use Rattle.definitions.specs.NameIndex.{slot_count, free}
use borrow.Author.Rules.{rules}
use Rattle.words.proofs.Indexing.{no_names}
use Rattle.words.proofs.name_table.NameTable.new.Goals as goal

pub invariant_of-result : goal.invariant_of-result
unfolding pair_size name_limit slot_count free
invariant_of-result c = record { table = no_names c.requires (search rules) (search rules) }
