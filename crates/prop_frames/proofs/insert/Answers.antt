-- What stands from there on moves up by one byte.
use Rattle.prop_frames.proofs.Insertion.{moved_up}
use Rattle.prop_frames.proofs.insert.Goals as goal

pub returns-then-to-code : goal.returns-then-to-code
returns-then-to-code c = moved_up _ _ _ c.if-to-code.true _ c.min-last.ensures c.copy_within.ensures.after
