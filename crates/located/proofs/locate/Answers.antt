-- A refusal that names a step has that step's column, any other one 0.
use mathlib.Core.Path.{sym, ◌∙◌}
use Rattle.located.proofs.Columns.{with_column}
use Rattle.located.proofs.locate.Goals as goal

pub returns-then-names_step : goal.returns-then-names_step
returns-then-names_step c =
    with_column _ _ (sym c.names_step.ensures ∙ c.if-names_step.true) (c.unwrap_or-column.ensures ∙ c.column_at.ensures)
