-- The brackets are asked first, and then the record is made.
use native.Mathlib.Omega.{arith}
use Rattle.term_stack.proofs.Grown.{build_not_due, not_built, built, built_few}
use Rattle.term_stack.proofs.Work.build.Goals as goal

pub returns-in_err-due : goal.returns-in_err-due
returns-in_err-due c z b = rw c.from_residual.ensures (build_not_due b c.in_err-due.ensures)

pub make-requires : goal.make-requires
make-requires c = let few = built_few c.requires.holds in omega (arith, few)

pub returns-in_err-made : goal.returns-in_err-made
returns-in_err-made c z b = rw c.from_residual-in_err-made.ensures (not_built b c.in_ok-due.ensures c.in_err-made.ensures)

pub returns : goal.returns
returns c z b = built b c.in_ok-due.ensures c.in_ok-made.ensures
