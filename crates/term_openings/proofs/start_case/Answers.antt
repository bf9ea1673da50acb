-- A blank, and then an entry for the head.
use native.Mathlib.Omega.{arith}
use Rattle.term_stack.specs.Standing.{left_at}
use Rattle.term_stack.proofs.Opened.{opens}
use Rattle.term_openings.specs.Beginning.{with_text, TextEnds}
use Rattle.term_openings.proofs.FirstWords.{case_not, case_comes, case_opens}
use Rattle.term_openings.proofs.start_case.Goals as goal

pub returns-in_err-head : goal.returns-in_err-head
unfolding TextEnds with_text
returns-in_err-head c z started = rw c.from_residual.ensures (case_not started c.in_err-head.ensures)

pub returns : goal.returns
unfolding TextEnds with_text left_at
returns c z started =
    let blank = c.in_ok-head.ensures in
    opens (case_opens started blank) (case_comes started blank) _ _ c.enter.ensures _ (omega (arith, blank.after))
