-- The length is handed over.
use Rattle.skriduhol_c.proofs.Handing.{lengths}
use Rattle.skriduhol_c.proofs.skriduhol_handout_plain_length.Goals as goal

pub returns : goal.returns
returns c = lengths _ c.hand.ensures c.handout_length.ensures
