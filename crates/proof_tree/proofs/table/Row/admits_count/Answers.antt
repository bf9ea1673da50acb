-- The count is tested against the fewest premisses and then against the most.
use mathlib.Core.Path.{◌∙◌}
use native.Mathlib.Omega.{arith}
use lib.ListN.{length}
use borrow.Author.Tests.{lt-leb}
use Rattle.definitions.specs.Export.{admits_count, row}
use Rattle.proof_tree.proofs.Counts.{not_too_few, too_few}
use Rattle.proof_tree.proofs.table.Row.admits_count.Goals as goal

pub returns-then-fewest-count : goal.returns-then-fewest-count
unfolding admits_count
returns-then-fewest-count c rule is = rw is.most_is (not_too_few (row rule).premisses _ (omega arith) (omega (arith, is.fewest_is)))

pub returns-else-fewest-count : goal.returns-else-fewest-count
unfolding admits_count
returns-else-fewest-count c rule is =
    lt-leb (length c.args.self.modes.now) c.args.count c.if-fewest-count.false ∙ too_few (row rule).premisses _ (omega (arith, is.fewest_is))
