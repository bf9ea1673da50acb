-- The new sheet fills the memory and its index the slots; the length is handed over.
use Rattle.skriduhol_c.proofs.Handing.{fills}
use Rattle.skriduhol_c.proofs.skriduhol_restate.Goals as goal

pub returns : goal.returns
returns c =
    let record { fills_of = answer; slots_after = slots; restates = _ } = rw c.given_in-restatement.ensures at c.restate.ensures in
    record { hands_filled = fills _ c.hand.ensures answer; slots_after = slots }
