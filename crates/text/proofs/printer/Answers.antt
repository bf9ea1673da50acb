-- The sheet's vocabulary and the table of ends are what the term's printing and measuring ask for.
use Rattle.text.proofs.Ends.{prints}
use Rattle.text.proofs.printer.Goals as goal

pub returns : goal.returns
returns c = let m = c.memory.ensures in λ term. prints m.accepted m.bytes m.vocabulary c.terms.ensures term c.requires
