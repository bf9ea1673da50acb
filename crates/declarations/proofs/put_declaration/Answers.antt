-- The word, the name, the count of an atom, and the semicolon, one after another.
use Rattle.definitions.specs.Text.{atom_declaration, datatype_declaration}
use Rattle.declarations.specs.Lines.{count_text, declaration}
use Rattle.declarations.proofs.put_declaration.Goals as goal

pub returns-in-Atoms-clause-line : goal.returns-in-Atoms-clause-line
unfolding declaration atom_declaration count_text
returns-in-Atoms-clause-line g c =
    let laws = g.met.S.Sink.laws in
    rw (c.in-Atoms.is, ← c.name-name.ensures)
    (laws.then c.put_all.ensures (laws.then c.put_all-in-Atoms.ensures (laws.then c.put_count.ensures c.put.ensures)))

pub returns-in-Datatypes-clause-line : goal.returns-in-Datatypes-clause-line
unfolding declaration datatype_declaration
returns-in-Datatypes-clause-line g c =
    let laws = g.met.S.Sink.laws in
    rw (c.in-Datatypes.is, ← c.name-name.ensures)
    (laws.then c.put_all-in-Datatypes.ensures (laws.then c.put_all-in-Datatypes-2.ensures c.put-in-Datatypes.ensures))
