-- The bracket closes, and the record of the pair is made over both parts.
use Rattle.term_stack.proofs.Closes.{given_small}
use Rattle.term_openings.specs.Beginning.{with_text, TextBegins, TextEnds}
use Rattle.term_openings.proofs.ClosedTerms.{ends_within}
use Rattle.term_closings.proofs.Paired.{second_refused, second_stuck, pair_few, pair_not, pair_using, pair_left}
use Rattle.term_closings.proofs.give_second.Goals as goal

pub returns-then-hand : goal.returns-then-hand
unfolding TextEnds with_text
returns-then-hand c z g = second_refused g c.if-hand.true

pub returns-in_err-end : goal.returns-in_err-end
unfolding TextEnds with_text
returns-in_err-end c z g =
    rw c.from_residual.ensures (second_stuck c.if-hand.false g c.in_err-end.ensures)

pub over_part-pair-requires : goal.over_part-pair-requires
unfolding TextBegins with_text
over_part-pair-requires c = let small = given_small c.requires.holds in (small.2, small.3)

pub make-requires : goal.make-requires
unfolding TextBegins with_text
make-requires c = rw c.over_part-pair.ensures (pair_few c.requires.holds)

pub returns-in_err-made : goal.returns-in_err-made
unfolding TextEnds with_text
returns-in_err-made c z g =
    rw c.from_residual-in_err-made.ensures (pair_not c.if-hand.false c.in_ok-end.ensures g (rw c.over_part-pair.ensures at c.in_err-made.ensures))

pub use_for-requires : goal.use_for-requires
unfolding TextBegins with_text
use_for-requires c =
    let made = rw (c.over_part-pair.ensures, c.waiting.ensures) at c.in_ok-made.ensures in
    record {
      value = with_text c.requires.value c.args.text.now;
      holds = rw c.over_part-pair.ensures (pair_using c.if-hand.false c.in_ok-end.ensures c.requires.holds made);
    }

pub returns : goal.returns
unfolding TextEnds with_text
returns c z g =
    let made = rw (c.over_part-pair.ensures, c.waiting.ensures) at c.in_ok-made.ensures in
    let bare = c.if-hand.false in
    let found = c.in_ok-end.ensures in
    ends_within _ _ _ _ _ (c.use_for.ensures _ (rw c.over_part-pair.ensures (pair_using bare found g made))) (pair_left _ found made)
