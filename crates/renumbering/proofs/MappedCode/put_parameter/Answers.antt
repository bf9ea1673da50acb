-- An uninstantiated parameter is a byte and a name, an instantiated one has an id too.
use mathlib.Core.Path.{◌≡◌, ap, ◌∙◌}
use native.Mathlib.Omega.{arith}
use lib.ListN.{get_or}
use Rattle.prefix_code.specs.Shape.{kind_byte}
use Rattle.renumbering.proofs.Parameters.{parameter_at, uninstantiated_written, instantiated_written}
use Rattle.renumbering.proofs.MappedCode.put_parameter.Goals as goal
use Rattle.renumbering.proofs.MappedCode.put_parameter.Goals.{In-Instantiated}

free : (g : _) → (c : In-Instantiated g) → get_or c.args.self.now.code.now c.args.at 0 ≡ 1
free g c = c.of_known.ensures ∙ ap kind_byte c.in-Instantiated.is

pub bounds-self-at : goal.bounds-self-at
bounds-self-at g c = omega (arith, (parameter_at _ c.requires).inside)

pub of_known-requires : goal.of_known-requires
of_known-requires g c = omega (arith, (parameter_at _ c.requires).kind)

pub put_name-requires : goal.put_name-requires
put_name-requires g c =
    let there = parameter_at _ c.requires in
    (omega (arith, there.inside), omega (arith, there.name, there.below))

pub number_at-requires : goal.number_at-requires
number_at-requires g c = omega (arith, ((parameter_at _ c.requires).instantiated (free g (goal.at.number_at-requires g c).In-Instantiated)).1)

pub returns-in-Uninstantiated : goal.returns-in-Uninstantiated
returns-in-Uninstantiated g c =
    uninstantiated_written _ _ g.met.S.Sink.laws c.put.ensures c.put_name.ensures (c.of_known.ensures ∙ ap kind_byte c.in-Uninstantiated.is)

pub returns-in-Instantiated : goal.returns-in-Instantiated
returns-in-Instantiated g c =
    instantiated_written _ _ g.met.S.Sink.laws c.put.ensures c.put_name.ensures (free g (goal.at.returns-in-Instantiated g c).In-Instantiated)
    c.number_at.ensures.0 c.put_u16.ensures
