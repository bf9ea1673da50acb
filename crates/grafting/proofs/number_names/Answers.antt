-- Each sheet has its index beside it; the host grafted into itself has its own lowest numbers.
use native.Mathlib.Omega.{arith}
use Rattle.definitions.specs.Sheet.{name_limit}
use Rattle.merged_names.proofs.Indexing.{none_numbered}
use Rattle.grafting.proofs.number_names.Goals as goal

pub fill_numbers-requires : goal.fill_numbers-requires
unfolding name_limit
fill_numbers-requires c = none_numbered _ _ (omega arith)

pub fill_numbers-requires-2 : goal.fill_numbers-requires-2
unfolding name_limit
fill_numbers-requires-2 c = none_numbered _ _ (omega arith)
