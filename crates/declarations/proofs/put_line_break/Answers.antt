-- Nothing before the first line, and a newline before any other.
use borrow.Author.Tests.{ne_eqb}
use Rattle.declarations.specs.Lines.{break_before}
use Rattle.declarations.proofs.put_line_break.Goals as goal

pub returns : goal.returns
unfolding break_before
returns g c = rw (ne_eqb c.args.line 0 c.if-line-eq0.false) c.put.ensures
