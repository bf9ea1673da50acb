-- The sizes of a term are handed over, or a refusal by its parts.
use mathlib.Core.Path.{sym, ◌∙◌}
use Rattle.skriduhol_c.proofs.TermsRead.{sizes_handed, refusal_handed}
use Rattle.skriduhol_c.proofs.hand_reading.Goals as goal

pub returns-in-Ok : goal.returns-in-Ok
returns-in-Ok c = λ o is. sizes_handed o (sym c.in-Ok.is ∙ is) c.hand.ensures

pub returns-in-Err : goal.returns-in-Err
returns-in-Err c = λ o is. refusal_handed o (sym c.in-Err.is ∙ is) c.hand-in-Err.ensures
