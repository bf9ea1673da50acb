-- The loop's invariant: all the parameters stand from `at` on exactly where those that are left stand from `i` on.
use Prim.Native.Nat.{◌-◌}
use Rattle.prefix_code.specs.Scan.{parameter_coding, parameters_coding}
use Rattle.prefix_code.proofs.Runs.{Walked}
use Rattle.prefix_code.proofs.parameters_end.Given as goal

abbrev pub invariant-loop : goal.invariant-loop
invariant-loop l =
    Walked (parameters_coding l.names l.count) (parameter_coding l.names) l.code l.at l.i (l.count - l.counter)
