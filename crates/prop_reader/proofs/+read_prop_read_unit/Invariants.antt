-- The calls end by the levels: a unit's parts are a level deeper than it, and so are the sides after it.
use Prim.Native.Nat.{◌+◌, ◌-◌, ◌*◌}
use Rattle.prop_reader.proofs.Chains.{Turned}
use Rattle.prop_reader.proofs.+read_prop_read_unit.Given as goal

abbrev pub decreases-read_prop : goal.decreases-read_prop
decreases-read_prop l = 2 * l.levels

abbrev pub decreases-read_unit : goal.decreases-read_unit
decreases-read_unit l = 2 * l.levels + 1

abbrev pub invariant-read_prop-loop : goal.invariant-read_prop-loop
invariant-read_prop-loop l =
    Turned l.text l.levels l.least l.to l.depth l.initial.names l.initial.bound l.initial.code l.initial.left (l.levels - l.initial.counter) l.names l.bound l.code l.left (l.levels - l.counter)
