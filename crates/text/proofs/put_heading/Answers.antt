-- The lines of the first list, a newline, the lines of the second and two newlines, one after another.
use Rattle.declarations.specs.Memory.{declared_uses}
use Rattle.vocabulary.specs.Vocabulary.{name_in}
use Rattle.text.specs.Declaring.{sheet_vocabulary}
use Rattle.text.proofs.Heading.{heading_put}
use Rattle.text.proofs.put_heading.Goals as goal

pub returns : goal.returns
returns g c =
    let given = c.args in
    let f = name_in given.sheet.now (sheet_vocabulary given.sheet.now) in
    heading_put given.version c.lists-upper.ensures.0 c.lists-upper.ensures.1 (declared_uses f given.first.now) (declared_uses f given.second.now)
    g.met.S.Sink.laws
    (rw (c.memory-memory.ensures.bytes, c.memory-memory.ensures.vocabulary) at c.put_declarations.ensures.lines) c.put.ensures
    (rw (c.memory-memory.ensures.bytes, c.memory-memory.ensures.vocabulary) at c.put_declarations-2.ensures.lines) c.put_all.ensures
