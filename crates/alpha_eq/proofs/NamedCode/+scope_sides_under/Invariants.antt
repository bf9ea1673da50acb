-- The calls end by the bytes of the code from i on: a form's function calls on parts of it, which start later.
use Prim.Native.Nat.{◌+◌, ◌-◌, ◌*◌}
use lib.ListN.{length}
use Rattle.alpha_eq.proofs.NamedCode.+scope_sides_under.Given as goal

abbrev pub decreases-scope : goal.decreases-scope
decreases-scope l = 2 * (length l.self.now.code.now - l.i)

abbrev pub decreases-sides : goal.decreases-sides
decreases-sides l = 2 * (length l.self.now.code.now - l.i)

abbrev pub decreases-under : goal.decreases-under
decreases-under l = 2 * (length l.self.now.code.now - l.i) + 1
