-- A word that is admitted is a name.
use mathlib.Core.Path.{sym, ◌∙◌}
use Rattle.words.specs.Places.{between}
use Rattle.words.proofs.Words.{name_ends, name_fails}
use Rattle.words.proofs.name_end.Goals as goal

pub returns-then-is_admitted : goal.returns-then-is_admitted
unfolding between
returns-then-is_admitted c = name_ends c.word_end-end.ensures (sym c.is_admitted.ensures ∙ c.if-is_admitted.true)

pub returns : goal.returns
unfolding between
returns c = name_fails c.word_end-end.ensures (sym c.is_admitted.ensures ∙ c.if-is_admitted.false)
