-- Behind the term a comma, or else the closing bracket.
use native.Mathlib.Omega.{arith}
use Rattle.term_stack.specs.Standing.{left_at}
use Rattle.term_stack.specs.Using.{left_after}
use Rattle.term_openings.specs.Beginning.{with_text, TextBegins, TextEnds}
use Rattle.term_openings.proofs.ClosedTerms.{ends_within}
use Rattle.term_closings.proofs.Enclosed.{bracket_refused, bracket_opens, bracket_stuck, bracket_using}
use Rattle.term_closings.proofs.give_bracket.Goals as goal

pub returns-then-hand : goal.returns-then-hand
unfolding TextEnds with_text
returns-then-hand c z g = bracket_refused g c.if-hand.true

pub returns-in-Some : goal.returns-in-Some
unfolding TextEnds with_text
returns-in-Some c z g = bracket_opens c.if-hand.false c.in-Some.ensures c.waiting.ensures _ _ g c.enter.ensures

pub returns-in_err-end : goal.returns-in_err-end
unfolding TextEnds with_text
returns-in_err-end c z g =
    rw c.from_residual.ensures (bracket_stuck c.if-hand.false c.in_default.ensures g c.in_err-end.ensures)

pub use_for-requires : goal.use_for-requires
unfolding TextBegins with_text
use_for-requires c =
    record { value = _; holds = bracket_using c.if-hand.false c.in_default.ensures c.requires.holds c.in_ok-end.ensures }

pub returns : goal.returns
unfolding TextEnds with_text left_after left_at
returns c z g =
    let found = c.in_ok-end.ensures in
    ends_within _ _ _ _ _ (c.use_for.ensures _ (bracket_using c.if-hand.false c.in_default.ensures g found)) (omega (arith, found.after))
