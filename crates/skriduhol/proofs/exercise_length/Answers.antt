-- A length is handed back as it is, and a refusal without a column.
use Rattle.std.proofs.Common.{rules}
use Rattle.located.proofs.Back.{mapped}
use Rattle.skriduhol.proofs.Lengths.{whole_exercise_located, exercise_measures}
use Rattle.skriduhol.proofs.exercise_length.Goals as goal

pub returns : goal.returns
returns c =
    let whole = c.exercise_length-length.ensures in
    let located = mapped _ c.exercise_length-length.result c.map_err.ensures.cases
    (λ x l e p. whole_exercise_located _ _ _ whole e (search rules)) in
    exercise_measures _ _ _ whole located
