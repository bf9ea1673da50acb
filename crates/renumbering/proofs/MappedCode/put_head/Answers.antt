-- The byte in front says what follows: nothing, a name and parameters, or two names.
use Prim.Native.Nat.{◌<◌}
use mathlib.Core.Path.{◌≡◌}
use native.Mathlib.Omega.{arith}
use lib.ListN.{get_or}
use Rattle.prefix_code.proofs.Fronts.{front_byte, bare_front, quantified_front}
use Rattle.renumbering.proofs.Heads.{AtomThere, QuantifierThere, head_at, atom_at, quantifier_at, parameters_at, bare_written, atom_written, quantifier_written}
use Rattle.renumbering.proofs.MappedCode.put_head.Goals as goal
use Rattle.renumbering.proofs.MappedCode.put_head.Goals.{In-Atom, In-Quantified}

-- what stands there, by the byte in front
byte5 : (g : _) → (c : In-Atom g) → get_or c.args.self.now.code.now c.args.at 0 ≡ 5
byte5 g c = front_byte c.of_known.ensures c.in-Atom.is

atom : (g : _) → (c : In-Atom g) → AtomThere c.args.self.now.names c.args.self.now.code.now c.args.at c.requires.value c.requires.rest
atom g c = atom_at _ c.requires (byte5 g c)

high : (g : _) → (c : In-Quantified g) → 5 < get_or c.args.self.now.code.now c.args.at 0
high g c = (quantified_front c.of_known.ensures c.in-Quantified.is).0

quantifier : (g : _) → (c : In-Quantified g) → QuantifierThere c.args.self.now.names c.args.self.now.code.now c.args.at c.requires.value c.requires.rest
quantifier g c = quantifier_at _ c.requires (high g c)

pub bounds-self-at : goal.bounds-self-at
bounds-self-at g c = (head_at _ c.requires).inside

pub of_known-requires : goal.of_known-requires
of_known-requires g c = (head_at _ c.requires).known

pub returns-in-True : goal.returns-in-True
returns-in-True g c = bare_written _ _ g.met.S.Sink.laws c.put.ensures (bare_front c.of_known.ensures c.in-True.is)

pub bounds-self-at-in-Atom : goal.bounds-self-at-in-Atom
bounds-self-at-in-Atom g c = omega (arith, (atom g (goal.at.bounds-self-at-in-Atom g c).In-Atom).bytes.inside)

pub put_name-requires : goal.put_name-requires
put_name-requires g c =
    let b = (atom g (goal.at.put_name-requires g c).In-Atom).bytes in
    (omega (arith, b.inside), omega (arith, b.name, b.below))

pub put_parameters-requires : goal.put_parameters-requires
put_parameters-requires g c = parameters_at _ c.requires (byte5 g (goal.at.put_parameters-requires g c).In-Atom)

pub returns-in-Atom : goal.returns-in-Atom
returns-in-Atom g c =
    atom_written _ _ g.met.S.Sink.laws c.put.ensures c.put_name.ensures (byte5 g (goal.at.returns-in-Atom g c).In-Atom) c.put-in-Atom.ensures
    c.put_parameters.ensures

pub put_name-requires-in-Quantified : goal.put_name-requires-in-Quantified
put_name-requires-in-Quantified g c =
    let b = (quantifier g (goal.at.put_name-requires-in-Quantified g c).In-Quantified).bytes in
    (omega (arith, b.inside), omega (arith, b.object, b.object_below))

pub put_name-requires-in-Quantified-2 : goal.put_name-requires-in-Quantified-2
put_name-requires-in-Quantified-2 g c =
    let b = (quantifier g (goal.at.put_name-requires-in-Quantified-2 g c).In-Quantified).bytes in
    (omega (arith, b.inside), omega (arith, b.datatype, b.datatype_below))

pub returns-in-Quantified : goal.returns-in-Quantified
returns-in-Quantified g c =
    quantifier_written _ _ g.met.S.Sink.laws c.put.ensures c.put_name-in-Quantified.ensures (high g (goal.at.returns-in-Quantified g c).In-Quantified)
    c.put_name-in-Quantified-2.ensures
