-- The memory holds a context after each turn, and at most one answer agrees for each question passed.
use Rattle.std.proofs.Common.{◌≤◌}
use Rattle.identifier_context.specs.Lent.{IsHeld}
use Rattle.replay_context.proofs.agreeing.Given as goal

abbrev pub invariant-loop : goal.invariant-loop
invariant-loop l = (l.agreed ≤ l.counter) × IsHeld l.context
