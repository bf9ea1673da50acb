-- The record of the leaf, and then its purpose.
use Rattle.term_stack.proofs.Leaves.{leaf_not, leaf_using, leaf_left}
use Rattle.term_stack.proofs.Work.use_leaf.Goals as goal

pub returns-in_err-made : goal.returns-in_err-made
returns-in_err-made c z l = rw c.from_residual.ensures (leaf_not l c.in_err-made.ensures)

pub use_for-requires : goal.use_for-requires
use_for-requires c = record { value = c.requires.value; holds = leaf_using c.requires.holds c.in_ok-made.ensures }

pub returns : goal.returns
returns c z l = rw (leaf_left l c.in_ok-made.ensures) at (c.use_for.ensures z (leaf_using l c.in_ok-made.ensures))
