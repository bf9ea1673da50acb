-- At most forty answers agree for each context passed.
use Rattle.std.proofs.Common.{◌*◌, ◌≤◌}
use Rattle.replay_context.proofs.main.Given as goal

abbrev pub invariant-loop : goal.invariant-loop
invariant-loop l = l.agreed ≤ 40 * l.counter
