-- Two names, each behind its bytes, and then an entry for the head.
use native.Mathlib.Omega.{arith}
use Rattle.term_stack.specs.Standing.{left_at}
use Rattle.term_stack.proofs.Opened.{opens}
use Rattle.term_openings.specs.Beginning.{with_names, NamesEnd}
use Rattle.term_openings.proofs.Noting.{noting}
use Rattle.term_openings.proofs.FirstWords.{first_not, second_not, let_not, let_comes, let_long, let_opens}
use Rattle.term_openings.proofs.start_let.Goals as goal

pub returns-in_err-first : goal.returns-in_err-first
unfolding NamesEnd with_names
returns-in_err-first c z started = rw c.from_residual.ensures (first_not started c.in_err-first.ensures)

pub returns-in_err-second : goal.returns-in_err-second
unfolding NamesEnd with_names
returns-in_err-second c z started =
    rw c.from_residual-in_err-second.ensures (second_not started c.in_ok-first.ensures c.in_err-second.ensures)

pub returns-in_err-head : goal.returns-in_err-head
unfolding NamesEnd with_names
returns-in_err-head c z started =
    rw c.from_residual-in_err-head.ensures (let_not started c.in_ok-first.ensures c.in_ok-second.ensures c.in_err-head.ensures)

pub returns : goal.returns
unfolding NamesEnd with_names noting left_at
returns c z started =
    let names = c.in_ok-first.ensures in
    let others = c.in_ok-second.ensures in
    let bracket = c.in_ok-head.ensures in
    let long = let_long started names others bracket in
    opens (let_opens started names others bracket) (let_comes started names others bracket) _ _ c.enter.ensures _ (omega (arith, long))
