-- What an insertion leaves is a context.
use Rattle.identifier_context.proofs.Lent.{held_inserted}
use Rattle.replay_context.proofs.insert.Goals as goal

pub returns : goal.returns
returns c = held_inserted c.insert-inserted.result c.insert-inserted.ensures c.requires.0 c.requires.1
