-- A length is handed back as it is, a refusal without a column.
use Rattle.std.proofs.Common.{rules}
use Rattle.located.proofs.Back.{mapped}
use Rattle.skriduhol.proofs.Located.{written_refused, fills_back, exercise_located}
use Rattle.skriduhol.proofs.exercise.Goals as goal

pub returns : goal.returns
returns c =
    let fills = c.exercise-written.ensures in
    let located = mapped _ c.exercise-written.result c.map_err.ensures.cases
    (λ x l e p. exercise_located _ _ _ _ (written_refused fills e) (search rules)) in
    fills_back _ fills located
