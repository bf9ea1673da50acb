-- The invariant: the parameters that are left decide the comparison.
use Prim.Native.Nat.{◌-◌}
use Rattle.alpha_eq.specs.Bindings.{numbers}
use Rattle.alpha_eq.proofs.Parameters.{Remaining}
use Rattle.alpha_eq.proofs.NamedCode.parameters.Given as goal

abbrev pub invariant-loop : goal.invariant-loop
invariant-loop l =
    Remaining l.self.names.pairs.now l.self.names.bytes.now (numbers l.bindings) l.self.code.now l.i l.j l.count l.left l.right (l.count - l.counter)
