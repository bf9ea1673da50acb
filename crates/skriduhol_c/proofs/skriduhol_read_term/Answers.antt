-- The answer of the operation is handed over, and the lent memory is what it made of it.
use Rattle.skriduhol_c.proofs.TermsRead.{memory_handed}
use Rattle.skriduhol_c.proofs.skriduhol_read_term.Goals as goal

pub returns : goal.returns
returns c =
    let record { reads_of = reads; restores_of = _; means_term = _ } = c.read_term-reading.ensures in
    memory_handed reads c.hand_reading.ensures
