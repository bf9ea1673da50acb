-- Each return is one shape, by the byte in front.
use Prim.Native.Nat.{◌+◌, ◌≤◌}
use mathlib.Core.Path.{◌≡◌}
use native.Mathlib.Omega.{arith}
use lib.ListN.{length, get_or}
use Rattle.prefix_code.proofs.Reading.{inside}
use Rattle.prefix_code.proofs.Fronts.{front_byte, binary_front, quantified_front}
use Rattle.prefix_code.proofs.Shapes.{one_name, two_names}
use Rattle.prefix_code.proofs.Shapes.{true_shape, false_shape, binary_shape, atom_shape, quantified_shape}
use Rattle.prefix_code.proofs.shape_at.Goals as goal
use Rattle.prefix_code.proofs.shape_at.Goals.{In-Atom, In-Quantified}

-- an atom has a name, and a quantifier has two
atom : (c : In-Atom) → get_or c.args.code.now c.args.at 0 ≡ 5
atom c = front_byte c.of_known.ensures c.in-Atom.is

named : (c : In-Atom) → let s = c.args in s.at + 4 ≤ length s.code.now
named c = one_name c.requires.present (omega (arith, atom c))

twice_named : (c : In-Quantified) → let s = c.args in s.at + 5 ≤ length s.code.now
twice_named c = two_names c.requires.present (quantified_front c.of_known.ensures c.in-Quantified.is).0

pub bounds-code-at : goal.bounds-code-at
bounds-code-at c = (inside c.requires.present).start

pub of_known-requires : goal.of_known-requires
of_known-requires c = (inside c.requires.present).known

pub overflow_add-result : goal.overflow_add-result
overflow_add-result c = omega (arith, inside c.requires.present)

pub number_at-requires : goal.number_at-requires
number_at-requires c = omega (arith, named (goal.at.number_at-requires c).In-Atom)

pub bounds-code-at-in-Atom : goal.bounds-code-at-in-Atom
bounds-code-at-in-Atom c = omega (arith, named (goal.at.bounds-code-at-in-Atom c).In-Atom)

pub overflow_add-at-in-Quantified : goal.overflow_add-at-in-Quantified
overflow_add-at-in-Quantified c = omega (arith, twice_named (goal.at.overflow_add-at-in-Quantified c).In-Quantified)

pub number_at-requires-in-Quantified : goal.number_at-requires-in-Quantified
number_at-requires-in-Quantified c = omega (arith, twice_named (goal.at.number_at-requires-in-Quantified c).In-Quantified)

pub overflow_add-at-in-Quantified-2 : goal.overflow_add-at-in-Quantified-2
overflow_add-at-in-Quantified-2 c = omega (arith, twice_named (goal.at.overflow_add-at-in-Quantified-2 c).In-Quantified)

pub number_at-requires-in-Quantified-2 : goal.number_at-requires-in-Quantified-2
number_at-requires-in-Quantified-2 c = omega (arith, twice_named (goal.at.number_at-requires-in-Quantified-2 c).In-Quantified)

pub overflow_add-result-in-Quantified : goal.overflow_add-result-in-Quantified
overflow_add-result-in-Quantified c = omega (arith, twice_named (goal.at.overflow_add-result-in-Quantified c).In-Quantified)

pub returns-in-True : goal.returns-in-True
returns-in-True c names h = true_shape h (front_byte c.of_known.ensures c.in-True.is)

pub returns-in-False : goal.returns-in-False
returns-in-False c names h = false_shape h (front_byte c.of_known.ensures c.in-False.is)

pub returns-in-Binary : goal.returns-in-Binary
returns-in-Binary c names h =
    let front = binary_front c.of_known.ensures c.in-Binary.is in
    rw front.2 (binary_shape h front.0 front.1)

pub returns-in-Atom : goal.returns-in-Atom
returns-in-Atom c names h = rw c.number_at.ensures.0 (atom_shape h (atom (goal.at.returns-in-Atom c).In-Atom))

pub returns-in-Quantified : goal.returns-in-Quantified
returns-in-Quantified c names h =
    let front = quantified_front c.of_known.ensures c.in-Quantified.is in
    rw (front.2, c.number_at-in-Quantified.ensures.0, c.number_at-in-Quantified-2.ensures.0) (quantified_shape h front.0)
