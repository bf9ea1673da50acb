-- What is no sheet, or has no term, is refused so; a term that is held is judged.
use borrow.Author.Rules.{rules}
use Rattle.judgement.proofs.Answers.{no_term, of-the-term}
use Rattle.judgement.proofs.judge.Goals as goal

pub returns-in_err-sheet : goal.returns-in_err-sheet
returns-in_err-sheet c = no_term _ _ _ c.in_err-sheet.ensures (search rules)

pub returns : goal.returns
returns c = let given = c.in_ok-sheet.ensures in of-the-term _ _ _ given.term (rw given.same at c.judge_held.ensures)
