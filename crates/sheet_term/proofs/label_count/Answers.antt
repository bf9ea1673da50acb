-- The root of the term that is held keeps the label count.
use mathlib.Core.Path.{◌∙◌}
use borrow.Author.Rules.{rules}
use Rattle.sheet_term.proofs.Answers.{no_count}
use Rattle.sheet_term.proofs.label_count.Goals as goal

pub returns-in_err-held : goal.returns-in_err-held
returns-in_err-held c = (search rules) ∙ no_count _ c.in_err-held.ensures
