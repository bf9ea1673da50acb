-- The turns tell.
use Rattle.term_reader.proofs.Handed.{measures}
use Rattle.term_reader.proofs.Passes.{measured}
use Rattle.term_reader.proofs.measure.Goals as goal

pub returns : goal.returns
returns c = measures _ _ _ _ _ (measured _ _ _ _ _ _ c.read.ensures) c.at.ensures c.ok_or.ensures.value
