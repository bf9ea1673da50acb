-- The count is handed over.
use Rattle.skriduhol_c.proofs.Handing.{count_handed}
use Rattle.skriduhol_c.proofs.skriduhol_label_count.Goals as goal

pub returns : goal.returns
returns c = count_handed _ c.hand.ensures _ c.label_count.ensures.value
