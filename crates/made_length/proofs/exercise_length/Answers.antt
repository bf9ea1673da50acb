-- The code fills memory that has room for the longest.
use Prim.Native.Nat.{ℕ}
use mathlib.Core.Path.{ap, ◌∙◌}
use lib.ListN.{length-replicate}
use Rattle.definitions.specs.Exercises.{exercise_answer}
use Rattle.output.specs.Written.{written_of}
use Rattle.made_length.proofs.Rooms.{exercise_in_room}
use Rattle.made_length.proofs.Enough.{exercise_whole}
use Rattle.made_length.proofs.exercise_length.Goals as goal

pub returns : goal.returns
returns c =
    let s = c.args in
    let names = s.names.now in
    let in_room = ap (exercise_answer names s.n s.ordinal) (length-replicate {A = ℕ} 19 0) ∙ exercise_in_room names s.n s.ordinal 19 in
    c.exercise.ensures.answer ∙ ap written_of (in_room ∙ exercise_whole names s.n s.ordinal)
