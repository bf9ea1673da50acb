-- A blank, and then a closed term.
use native.Mathlib.Omega.{arith}
use Rattle.term_stack.specs.Standing.{left_at}
use Rattle.term_openings.specs.Beginning.{with_names, NamesBegin, NamesEnd}
use Rattle.term_openings.proofs.ClosedTerms.{ends_within}
use Rattle.term_openings.proofs.FirstWords.{body_not, body_closed}
use Rattle.term_openings.proofs.call.Goals as goal

pub returns-in_err-body : goal.returns-in_err-body
unfolding NamesEnd with_names
returns-in_err-body c z called = rw c.from_residual.ensures (body_not called c.in_err-body.ensures)

pub closed_for-requires : goal.closed_for-requires
unfolding NamesBegin with_names
closed_for-requires c =
    let pre = c.requires in
    record { value = pre.value; holds = body_closed pre.holds c.in_ok-body.ensures }

pub returns : goal.returns
unfolding NamesEnd with_names left_at
returns c z called =
    let blank = c.in_ok-body.ensures in
    ends_within _ _ _ _ _ (c.closed_for.ensures z (body_closed called blank)) (omega (arith, blank.after))
