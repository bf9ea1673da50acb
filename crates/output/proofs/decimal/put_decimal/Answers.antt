-- A number has twenty digits at the most.
use native.Mathlib.Omega.{arith}
use Rattle.output.proofs.Digits.{at_most_twenty, taken_whole}
use Rattle.output.proofs.decimal.put_decimal.Goals as goal

pub slice_bounds-digits-end : goal.slice_bounds-digits-end
slice_bounds-digits-end g c = at_most_twenty (omega arith) c.digit_count.ensures

pub slice_bounds-text-end : goal.slice_bounds-text-end
slice_bounds-text-end g c = taken_whole _ (at_most_twenty (omega arith) c.digit_count.ensures)
