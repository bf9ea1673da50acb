-- The declarations up to the next one are left to search, and none behind them has the bytes and the count.
use Rattle.vocabulary.specs.Memory.{name_of}
use Rattle.prop_lists.specs.Entries.{use_of}
use Rattle.declarations.specs.Chains.{up_to}
use Rattle.declarations.proofs.Search.{Remain}
use Rattle.declarations.proofs.Declarations.is_declared.Given as goal

abbrev pub invariant-loop-next : goal.invariant-loop-next
invariant-loop-next g l = Remain (name_of l.self.memory) l.self.table.rows l.self.table.len (use_of l.name l.count) l.next

abbrev pub decreases-loop-next : goal.decreases-loop-next
decreases-loop-next g l = up_to l.next
