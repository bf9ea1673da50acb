-- Each turn of the loop stores the last digit of the rest.
use Rattle.output.proofs.Digits.{Stored}
use Rattle.output.proofs.decimal.store_digits.Given as goal

abbrev pub invariant-loop-i : goal.invariant-loop-i
invariant-loop-i l = Stored l.n l.i l.rest l.out
