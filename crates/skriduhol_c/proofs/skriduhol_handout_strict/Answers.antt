-- The text fills the memory, and its length is handed over.
use Rattle.skriduhol_c.proofs.Handing.{fills}
use Rattle.skriduhol_c.proofs.skriduhol_handout_strict.Goals as goal

pub returns : goal.returns
returns c = fills _ c.hand.ensures c.handout.ensures.fills_of
