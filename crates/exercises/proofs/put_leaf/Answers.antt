-- ⊤ and ⊥ come first; an atom is its number, which one byte holds.
use native.Mathlib.Omega.{arith}
use Rattle.exercises.proofs.Leaf.{leaves, constant, named}
use Rattle.exercises.proofs.put_leaf.Goals as goal

pub returns-in-0 : goal.returns-in-0
returns-in-0 g c = rw (constant c.args.names c.args.i (omega arith), c.in-0.is) c.put.ensures

pub returns-in-1 : goal.returns-in-1
returns-in-1 g c = rw (constant c.args.names c.args.i (omega arith), c.in-1.is) c.put-in-1.ensures

pub overflow_cast-i : goal.overflow_cast-i
overflow_cast-i g c = omega (arith, c.requires.0.names_few, c.requires.1, leaves c.args.names)

pub returns-in_default : goal.returns-in_default
returns-in_default g c = rw (named c.args.names c.args.i c.requires.0.names_few (omega arith) c.requires.1) c.put_all.ensures
