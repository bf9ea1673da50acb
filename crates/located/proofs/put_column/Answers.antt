-- The word and the number for a refusal that names a step, and for any other one nothing.
use mathlib.Core.Path.{sym, ◌∙◌}
use Rattle.definitions.specs.Answers.{column_words}
use Rattle.located.proofs.put_column.Goals as goal

pub returns-then-names_step : goal.returns-then-names_step
unfolding column_words
returns-then-names_step g c =
    rw (sym c.names_step.ensures ∙ c.if-names_step.true) (g.met.S.Sink.laws.then c.put_all.ensures c.put_decimal.ensures)
