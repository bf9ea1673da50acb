-- The lists are those of the version.
use Rattle.text.proofs.Heading.{noted_of}
use Rattle.text.proofs.declare_both.Goals as goal

pub returns-clause-declares : goal.returns-clause-declares
returns-clause-declares c = noted_of c.lists-upper.ensures.0 c.declare-first.ensures.declares

pub returns-clause-declares_2 : goal.returns-clause-declares_2
returns-clause-declares_2 c = noted_of c.lists-upper.ensures.1 c.declare-second.ensures.declares
