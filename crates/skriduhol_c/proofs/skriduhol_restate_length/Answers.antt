-- The length is handed over.
use Rattle.skriduhol_c.proofs.Handing.{lengths}
use Rattle.skriduhol_c.proofs.skriduhol_restate_length.Goals as goal

pub returns : goal.returns
returns c = lengths _ c.hand.ensures (rw c.given_in-restatement.ensures at c.restate_length.ensures)
