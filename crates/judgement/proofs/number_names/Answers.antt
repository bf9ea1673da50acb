-- With its index beside it, the sheet merged into itself has its own lowest numbers.
use Rattle.merged_names.proofs.Indexing.{none_numbered}
use Rattle.judgement.proofs.number_names.Goals as goal

pub fill_numbers-requires : goal.fill_numbers-requires
fill_numbers-requires c = none_numbered _ _ c.requires
