-- The list fills the memory, and its length is handed over.
use Rattle.skriduhol_c.proofs.Handing.{fills}
use Rattle.skriduhol_c.proofs.skriduhol_handout_datatypes.Goals as goal

pub returns : goal.returns
returns c = fills _ c.hand.ensures c.handout_datatypes.ensures
