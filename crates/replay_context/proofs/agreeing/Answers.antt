-- A context is empty at first.
use Rattle.std.proofs.Common.{arith}
use Rattle.identifier_context.proofs.Contexts.{empty_holds}
use Rattle.replay_context.proofs.agreeing.Goals as goal

pub loop-init : goal.loop-init
loop-init c = (omega arith, empty_holds)
