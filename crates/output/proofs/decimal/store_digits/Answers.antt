-- Each turn of the loop stores the last digit of the rest.
use mathlib.Core.Path.{◌≡◌}
use native.Mathlib.Omega.{arith}
use Rattle.output.proofs.Digits.{starts, one_left, digit_stored, all_stored}
use Rattle.output.proofs.decimal.store_digits.Goals as goal

pub loop-i-init : goal.loop-i-init
loop-i-init c = starts _ _ c.requires

pub loop-i-preserved : goal.loop-i-preserved
loop-i-preserved c = digit_stored (one_left (omega arith) c.loop-i.invariant)

pub returns : goal.returns
returns c = let none : c.loop-i.i ≡ 0 = omega arith in all_stored (rw none at c.loop-i.invariant)
