-- The name, and then the count of an atom.
use Rattle.definitions.specs.Answers.{atom_numbers}
use Rattle.prop_lists.specs.Entries.{entry_numbers}
use Rattle.prop_lists.proofs.put_entry.Goals as goal

pub returns-in-Atoms : goal.returns-in-Atoms
unfolding entry_numbers atom_numbers
returns-in-Atoms g c = rw c.in-Atoms.is (g.met.S.Sink.laws.then c.put.ensures c.put-in-Atoms.ensures)
