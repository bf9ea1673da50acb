-- The length is handed over.
use Rattle.skriduhol_c.proofs.Handing.{lengths}
use Rattle.skriduhol_c.proofs.skriduhol_exercise_length.Goals as goal

pub returns : goal.returns
returns c = lengths _ c.hand.ensures c.exercise_length.ensures
