-- The lines of both lists, and three newlines.
use Rattle.text.proofs.Heading.{printable, heading_measured}
use Rattle.text.proofs.heading_length.Goals as goal

pub lines_length-requires : goal.lines_length-requires
lines_length-requires c = (rw c.memory-memory.ensures.bytes (printable c.memory-memory.ensures.vocabulary c.requires.declares), c.requires.few.0)

pub lines_length-requires-2 : goal.lines_length-requires-2
lines_length-requires-2 c = (rw c.memory-memory.ensures.bytes (printable c.memory-memory.ensures.vocabulary c.requires.declares_2), c.requires.few.1)

pub returns : goal.returns
returns c =
    heading_measured c.memory-memory.ensures.vocabulary c.args.version c.lists-upper.ensures.0 c.lists-upper.ensures.1
    c.requires.declares c.requires.declares_2
    (rw c.memory-memory.ensures.bytes at c.lines_length.ensures) (rw c.memory-memory.ensures.bytes at c.lines_length-2.ensures)
