-- The parameters that are left decide what is left to write.
use Prim.Native.Nat.{◌-◌}
use Rattle.renumbering.proofs.Parameters.{Remaining}
use Rattle.renumbering.proofs.MappedCode.put_parameters.Given as goal

abbrev pub invariant-loop : goal.invariant-loop
invariant-loop g l = Remaining l.self.names l.self.code.now l.self.numbers.now g.S.Sink.puts l.initial.sink l.at l.count l.sink l.i (l.count - l.counter)
