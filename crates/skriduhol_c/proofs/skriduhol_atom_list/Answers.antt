-- The list fills the memory, and its length is handed over.
use Rattle.skriduhol_c.proofs.Handing.{fills}
use Rattle.skriduhol_c.proofs.skriduhol_atom_list.Goals as goal

pub returns : goal.returns
returns c = fills _ c.hand.ensures c.atom_list.ensures
