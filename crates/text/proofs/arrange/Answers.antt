-- Versions 1 and 2 leave the declarations as they are, and version 3 sorts them.
use Rattle.text.proofs.Arranging.{unsorted, sorted}
use Rattle.text.proofs.arrange.Goals as goal

pub returns-in-Third : goal.returns-in-Third
returns-in-Third c = rw c.in-Third.is (sorted (rw (c.memory.ensures.bytes, c.memory.ensures.vocabulary) at c.sort_declarations.ensures))

pub returns-in-First : goal.returns-in-First
returns-in-First c = unsorted c.in-First.is c.requires
