-- The name, whether it is bound, and its code.
use mathlib.Core.Path.{◌≡◌}
use native.Mathlib.Omega.{arith}
use Rattle.std.specs.Prelude.{None}
use borrow.Author.Rules.{rules}
use Rattle.atom_reader.proofs.Parameters.{parameter_not, parameter_given}
use Rattle.atom_reader.proofs.read_parameter.Goals as goal

pub returns-in_err-name : goal.returns-in_err-name
returns-in_err-name c ns b =
    let none : c.from_residual.result ≡ None = search rules in
    rw none (parameter_not ns _ c.in_err-name.ensures)

pub returns : goal.returns
returns c ns b = parameter_given b c.in_ok-name.ensures (omega (arith, c.requires.deep)) (rw c.from.ensures at c.parameter_kind-kind.ensures) c.put_parameter-size.ensures
