-- What is no sheet has no term; an accepted sheet's is exported.
use borrow.Author.Rules.{rules}
use Rattle.sheet_term.proofs.Held.{not_a_sheet}
use Rattle.sheet_term.proofs.sheet_term.Goals as goal

pub returns-in_err-sheet : goal.returns-in_err-sheet
returns-in_err-sheet c = let no_term = not_a_sheet _ c.in_err-sheet.ensures in search rules
