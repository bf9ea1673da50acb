-- The flags in fixed memory: what one more of them changes.
use Prim.Native.Nat.{ℕ, zero, suc, ◌≤◌, ◌<◌}
use mathlib.Core.Path.{◌≡◌}
use mathlib.Core.Bool.{Bool, true, false, cond}
use mathlib.Core.List.{List, [], ◌∷◌}
use native.Mathlib.Omega.{arith}
use lib.ListN.{length, get_or, set}
use Rattle.declarations.specs.Memory.{flagged}

bit : (b : Bool) → cond b 1 0 ≤ 1
bit true = omega arith
bit false = omega arith

pub flagged_few : (seen : List Bool) → flagged seen ≤ length seen
unfolding flagged
flagged_few [] = omega arith
flagged_few (a ∷ seen) = omega (arith, bit a, flagged_few seen)

pub flagged_more : (seen : List Bool) (i : ℕ) → i < length seen → get_or seen i false ≡ false → flagged (set seen i true) ≡ suc (flagged seen)
unfolding flagged
flagged_more [] i h e = absurd (omega arith)
flagged_more (a ∷ seen) zero h e = rw e (omega arith)
flagged_more (a ∷ seen) (suc i) h e = rw (flagged_more seen i (omega arith) e) (omega arith)
