-- Behind the term a blank, and then the closed term.
use native.Mathlib.Omega.{arith}
use Rattle.term_stack.specs.Standing.{left_at}
use Rattle.term_openings.specs.Beginning.{with_names, NamesBegin, NamesEnd}
use Rattle.term_openings.proofs.ClosedTerms.{ends_within}
use Rattle.term_closings.proofs.Ascribed.{held_small}
use Rattle.term_closings.proofs.Chained.{argument_not_due, no_blank, argument_closed}
use Rattle.term_closings.proofs.argument.Goals as goal

pub returns-in_err-due : goal.returns-in_err-due
unfolding NamesBegin NamesEnd with_names
returns-in_err-due c z held = rw c.from_residual.ensures (argument_not_due held c.requires.1 c.in_err-due.ensures)

pub returns-in_err-start : goal.returns-in_err-start
unfolding NamesBegin NamesEnd with_names
returns-in_err-start c z held =
    rw c.from_residual-in_err-start.ensures (no_blank held c.requires.1 c.in_ok-due.ensures c.in_err-start.ensures)

pub waiting-requires : goal.waiting-requires
unfolding NamesBegin with_names
waiting-requires c = held_small c.requires.0.holds

pub closed_for-requires : goal.closed_for-requires
unfolding NamesBegin with_names
closed_for-requires c =
    let pre = c.requires in
    record { value = pre.0.value; holds = argument_closed pre.0.holds pre.1 c.in_ok-due.ensures c.in_ok-start.ensures c.waiting.ensures }

pub returns : goal.returns
unfolding NamesBegin NamesEnd with_names left_at
returns c z held =
    let blank = c.in_ok-start.ensures in
    ends_within _ _ _ _ _ (c.closed_for.ensures z (argument_closed held c.requires.1 c.in_ok-due.ensures blank c.waiting.ensures)) (omega (arith, blank.after))
