-- By the head: one of a single byte, an atom's parameters, or a quantifier.
use native.Mathlib.Omega.{arith}
use Rattle.prefix_code.proofs.Fronts.{front_byte, bare_front, quantified_front}
use Rattle.checkable.proofs.Plain.{some_inside, some_known, plain_bare, no_plain_quantifier, atom_inside, plain_atom}
use Rattle.checkable.proofs.is_plain_head.Goals as goal

pub bounds-code-at : goal.bounds-code-at
bounds-code-at c = some_inside _ _ c.requires

pub of_known-requires : goal.of_known-requires
of_known-requires c = some_known _ _ c.requires

pub bounds-code-at-in-Atom : goal.bounds-code-at-in-Atom
bounds-code-at-in-Atom c = omega (arith, (atom_inside _ _ c.requires (front_byte c.of_known.ensures c.in-Atom.is)).0)

pub are_instantiated-requires : goal.are_instantiated-requires
are_instantiated-requires c = rw c.from.ensures (atom_inside _ _ c.requires (front_byte c.of_known.ensures c.in-Atom.is)).1

pub returns-in-True : goal.returns-in-True
returns-in-True c = plain_bare _ _ (bare_front c.of_known.ensures c.in-True.is)

pub returns-in-Atom : goal.returns-in-Atom
returns-in-Atom c = plain_atom _ _ (front_byte c.of_known.ensures c.in-Atom.is) _ (rw c.from.ensures at c.are_instantiated.ensures)

pub returns-in-Quantified : goal.returns-in-Quantified
returns-in-Quantified c = no_plain_quantifier _ _ (quantified_front c.of_known.ensures c.in-Quantified.is).0
