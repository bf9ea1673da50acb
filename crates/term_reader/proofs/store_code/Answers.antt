-- The same term again, or nothing to store.
use native.Mathlib.Omega.{arith}
use Rattle.term_reader.specs.Whole.{Rereads}
use Rattle.term_reader.proofs.Passes.{no_labels, read_again}
use Rattle.term_reader.proofs.store_code.Goals as goal

pub returns-then-size-gt0 : goal.returns-then-size-gt0
unfolding Rereads
returns-then-size-gt0 c t first = read_again first _ _ _ _ _ c.read.ensures

pub returns-else-size-gt0 : goal.returns-else-size-gt0
unfolding Rereads
returns-else-size-gt0 c t first = no_labels first (omega (arith, c.if-size-gt0.false)) _
