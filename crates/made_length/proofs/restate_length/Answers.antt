-- The new sheet fills memory that has room for the longest.
use Prim.Native.Nat.{ℕ}
use mathlib.Core.Path.{ap, ◌∙◌}
use lib.ListN.{length-replicate}
use Rattle.definitions.specs.Restate.{restate_answer}
use Rattle.output.specs.Written.{written_of}
use Rattle.restating.specs.Step.{given_of}
use Rattle.made_length.proofs.Enough.{restated_whole}
use Rattle.made_length.proofs.restate_length.Goals as goal

pub returns : goal.returns
returns c =
    let s = c.args in
    let sheet = s.s.now in
    let in_room = ap (restate_answer sheet (given_of s.given)) (length-replicate {A = ℕ} 40972 0) in
    c.restate.ensures.fills.answer ∙ ap written_of (in_room ∙ restated_whole sheet (given_of s.given))
