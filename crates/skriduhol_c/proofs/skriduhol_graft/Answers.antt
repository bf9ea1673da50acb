-- The merged sheet fills the memory and its index the slots; its length is handed over, or a refusal and whose it is.
use Rattle.skriduhol_c.proofs.Grafts.{grafts}
use Rattle.skriduhol_c.proofs.skriduhol_graft.Goals as goal

pub returns : goal.returns
returns c =
    let record { grafts_of = answer; slots_after = slots; merges = _ } = c.graft.ensures in
    record { hands_grafted = grafts _ _ _ c.hand_grafted.ensures answer; slots_after = slots }
