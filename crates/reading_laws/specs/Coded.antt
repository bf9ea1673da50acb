-- Propositions that have a code: no atom has more parameters than it has room for.
use Rattle.std.specs.Prelude.{◌≤◌, length}
use Rattle.definitions.specs.Name.{Name}
use Rattle.definitions.specs.Prop.{Prop, True, False, Binary, Atom, Quantified}
use Rattle.definitions.specs.Code.{parameter_limit}
use Rattle.definitions.specs.Term.{Label, proposition, datatype}

unfoldable pub FewParameters : Prop Name → Type 0
FewParameters True = Prim.Unit {0}
FewParameters False = Prim.Unit {0}
FewParameters (Binary c p q) = FewParameters p × FewParameters q
FewParameters (Atom a ps) = length ps ≤ parameter_limit
FewParameters (Quantified q x t p) = FewParameters p

unfoldable pub Coded : Label Name → Type 0
Coded (proposition p) = FewParameters p
Coded (datatype t) = Prim.Unit {0}
