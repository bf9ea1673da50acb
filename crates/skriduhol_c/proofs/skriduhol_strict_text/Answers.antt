-- The text fills the memory, and its length is handed over.
use Rattle.skriduhol_c.proofs.Handing.{fills}
use Rattle.skriduhol_c.proofs.skriduhol_strict_text.Goals as goal

pub returns : goal.returns
returns c = fills _ c.hand.ensures c.strict_text.ensures.fills_of
