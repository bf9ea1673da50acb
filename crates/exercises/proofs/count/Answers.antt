-- The table's entry.
use Rattle.exercises.proofs.Counted.{entry}
use Rattle.exercises.proofs.count.Goals as goal

pub returns : goal.returns
returns c = entry _ _ c.requires.names_few c.requires.connectives_few
