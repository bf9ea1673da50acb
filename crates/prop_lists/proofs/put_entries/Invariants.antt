-- The loop's invariant: what is left to put are the entries from `i` on, and the sink knows the names still.
use Prim.Native.Nat.{ℕ, ◌-◌, ◌<◌}
use Rattle.prop_lists.specs.Row.{Row}
use Rattle.prop_lists.specs.Entries.{entries_from}
use Rattle.prop_lists.proofs.Writes.{Left}
use Rattle.prop_lists.proofs.put_entries.Given as goal

abbrev pub invariant-loop-i : goal.invariant-loop-i
invariant-loop-i g l =
    Row l.names l.code l.i l.end
    × Left g.S.UseSink.puts (entries_from l.names l.list l.code l.at l.end) (entries_from l.names l.list l.code l.i l.end) l.initial.sink l.sink
    × ((name : ℕ) → name < l.names → g.S.UseSink.knows l.sink name)

abbrev pub decreases-loop-i : goal.decreases-loop-i
decreases-loop-i g l = l.end - l.i
