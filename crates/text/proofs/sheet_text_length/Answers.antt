-- A term that is held is measured; the refusal of one is the answer.
use mathlib.Core.Path.{◌∙◌}
use borrow.Author.Rules.{rules}
use Rattle.text.proofs.Heading.{length_told, refusal_told}
use Rattle.text.proofs.sheet_text_length.Goals as goal

pub returns-in_err-held : goal.returns-in_err-held
returns-in_err-held c = (search rules) ∙ refusal_told _ _ _ c.in_err-held.ensures

pub returns : goal.returns
returns c = let given = c.in_ok-held.ensures in length_told given.term _ _ (rw given.same at c.text_length.ensures)
