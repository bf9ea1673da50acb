-- A refused sheet is the answer; of an accepted one the laws hold of the very bytes.
use mathlib.Core.Path.{refl}
use borrow.Author.Rules.{rules}
use Rattle.restating.proofs.Answers.{told, sheet-refused, slots_kept, bytes-restate}
use Rattle.restating.proofs.restate.Goals as goal

pub returns-in_err-sheet : goal.returns-in_err-sheet
returns-in_err-sheet c =
    let answer = sheet-refused _ _ c.in_err-sheet.ensures _ _ in
    let handed = told answer (search rules) in
    record { fills = handed; slots_after = slots_kept _ _ _ answer refl _; restates = bytes-restate _ _ _ handed }

pub returns : goal.returns
returns c =
    let record { fills = answer; slots_after = slots } = rw c.in_ok-sheet.ensures.0 at c.restate_indexed.ensures in
    record { fills = answer; slots_after = slots; restates = bytes-restate _ _ _ answer }
