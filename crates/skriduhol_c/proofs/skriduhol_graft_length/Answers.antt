-- The length is handed over, or a refusal and whose it is.
use Rattle.skriduhol_c.proofs.Grafts.{graft_lengths}
use Rattle.skriduhol_c.proofs.skriduhol_graft_length.Goals as goal

pub returns : goal.returns
returns c = graft_lengths _ _ _ c.hand_grafted.ensures c.graft_length.ensures
