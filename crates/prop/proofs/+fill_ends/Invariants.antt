-- The loop's invariant: the ends of some parts are filled in, and those of the needed ones from i on are not. The calls
-- end by the position.
use Prim.Native.Nat.{◌-◌}
use lib.ListN.{length, get_or}
use Rattle.prefix_code.specs.Head.{parts_after}
use Rattle.prefix_code.specs.PropAt.{prop_at}
use Rattle.prop.proofs.Filling.{Filling}
use Rattle.prop.proofs.+fill_ends.Given as goal

abbrev pub decreases-fill_ends : goal.decreases-fill_ends
decreases-fill_ends l = length l.code.now - l.at

abbrev pub invariant-loop : goal.invariant-loop
invariant-loop l = Filling l.names l.code (prop_at l.names l.code l.at) l.at l.initial.ends l.ends l.i (parts_after (get_or l.code l.at 0) - l.counter)
