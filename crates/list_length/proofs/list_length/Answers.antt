-- The length of the list of the term that is held, or the refusal of the term, is the answer.
use borrow.Author.Rules.{rules}
use mathlib.Core.Path.{◌∙◌}
use Rattle.list_length.proofs.Numbers.{refusal_told}
use Rattle.list_length.proofs.list_length.Goals as goal

pub returns-in_err-held : goal.returns-in_err-held
returns-in_err-held c = (search rules) ∙ refusal_told _ _ c.in_err-held.ensures
