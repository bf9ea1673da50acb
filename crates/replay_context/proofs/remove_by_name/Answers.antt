-- What a removal leaves is a context.
use Rattle.identifier_context.proofs.Lent.{held_removed}
use Rattle.replay_context.proofs.remove_by_name.Goals as goal

pub returns : goal.returns
returns c = held_removed c.remove_by_name-removed.result c.remove_by_name-removed.ensures c.requires.0
