-- What is known behind a whole term.
use Rattle.term_stack.specs.declared.Entry.{Entry}
use Rattle.term_stack.specs.declared.Hand.{Hand}
use Rattle.term_stack.specs.Turning.{Standpoint}
use Rattle.term_stack.specs.Using.{Gives}

-- a whole term is in hand for this entry, which was taken off the stack
abbrev pub AtEntry : Hand → Entry → Standpoint
AtEntry h e z work s = Gives z work s h e
