-- The proposition, and then the hypotheses.
use borrow.Author.Tests.{le-leb}
use Rattle.judgement.proofs.Answers.{past, not-past}
use Rattle.judgement.proofs.is_outside.Goals as goal

pub returns-then-h-k : goal.returns-then-h-k
returns-then-h-k c = rw (le-leb c.header-h.result.propositions c.args.k c.if-h-k.true) (past _ c.header-h.ensures.is _ _ c.if-h-k.true)

pub returns-else-h-k : goal.returns-else-h-k
returns-else-h-k c = not-past _ c.header-h.ensures.is _ _ c.if-h-k.false c.is_out.ensures
