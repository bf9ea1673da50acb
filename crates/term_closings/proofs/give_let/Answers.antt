-- Behind the head the body, for which an entry waits then.
use Rattle.term_openings.specs.Beginning.{with_text, TextEnds}
use Rattle.term_closings.proofs.Bodies.{let_not_due, let_stuck, let_turned}
use Rattle.term_closings.proofs.give_let.Goals as goal

pub returns-in_err-due : goal.returns-in_err-due
unfolding TextEnds with_text
returns-in_err-due c z g = rw c.from_residual.ensures (let_not_due g c.in_err-due.ensures)

pub returns-in_err-body : goal.returns-in_err-body
unfolding TextEnds with_text
returns-in_err-body c z g =
    rw c.from_residual-in_err-body.ensures (let_stuck c.in_ok-due.ensures g c.in_err-body.ensures)

pub returns : goal.returns
unfolding TextEnds with_text
returns c z g = let_turned c.in_ok-due.ensures c.in_ok-body.ensures c.waiting.ensures _ _ g c.enter.ensures
