-- A term that is held is printed; the refusal of one is the answer.
use Rattle.skriduhol.proofs.Texts.{no_text}
use borrow.Author.Rules.{rules}
use Rattle.skriduhol.proofs.styled_text.Goals as goal

pub returns-in_err-held : goal.returns-in_err-held
returns-in_err-held c = no_text _ _ _ c.in_err-held.ensures (search rules) _
