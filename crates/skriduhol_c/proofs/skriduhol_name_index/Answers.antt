-- The index fills the slots, and their count is handed over.
use Rattle.skriduhol_c.proofs.Handing.{fills}
use Rattle.skriduhol_c.proofs.skriduhol_name_index.Goals as goal

pub returns : goal.returns
returns c = fills _ c.hand.ensures c.name_index.ensures
