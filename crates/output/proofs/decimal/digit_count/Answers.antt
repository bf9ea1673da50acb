-- The greatest power of ten within the number.
use Rattle.output.proofs.Digits.{least_count}
use Rattle.output.proofs.decimal.digit_count.Goals as goal

pub returns : goal.returns
returns c = least_count _ _ (rw c.max.ensures at c.ilog10.ensures.power_le) (rw c.max.ensures at c.ilog10.ensures.next_power_gt)
