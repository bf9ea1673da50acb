-- What a removal leaves is a context.
use Rattle.identifier_context.proofs.Lent.{held_removed}
use Rattle.replay_context.proofs.remove.Goals as goal

pub returns : goal.returns
returns c = held_removed c.remove-removed.result c.remove-removed.ensures c.requires.0
