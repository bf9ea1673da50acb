-- A sheet has fewer than 256 questions, so that no count of 2³² sheets is too great.
use Rattle.std.proofs.Common.{◌≤◌, ◌*◌}
use Rattle.replay.proofs.main.Given as goal

abbrev pub invariant-loop : goal.invariant-loop
invariant-loop l = (l.questions ≤ 256 * l.counter) × (l.agreed ≤ 256 * l.counter)
