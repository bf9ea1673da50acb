-- Behind the colon the label; the record of the ascription is made, and its term is whole.
use native.Mathlib.Omega.{arith}
use Rattle.term_stack.specs.Turning.{scene_of, TurnBegins, TurnEnds}
use Rattle.term_openings.proofs.Noting.{noting}
use Rattle.term_closings.proofs.Ascribed.{held_small, label_begins, label_not_due, no_label, ascription_not, ascription_turned}
use Rattle.term_closings.proofs.ascribe.Goals as goal

pub returns-in_err-due : goal.returns-in_err-due
unfolding TurnBegins TurnEnds scene_of
returns-in_err-due c before held =
    let (begins, bare, colon) = c.requires in
    rw c.from_residual.ensures (label_not_due held bare colon c.in_err-due.ensures)

pub read_label-requires : goal.read_label-requires
unfolding TurnBegins scene_of
read_label-requires c =
    let (begins, bare, colon) = c.requires in
    label_begins begins.holds bare colon

pub returns-in_err-read : goal.returns-in_err-read
unfolding TurnBegins TurnEnds scene_of
returns-in_err-read c before held =
    let (begins, bare, colon) = c.requires in
    rw c.from_residual-in_err-read.ensures (no_label held bare colon c.in_ok-due.ensures c.in_err-read.ensures)

pub waiting-requires : goal.waiting-requires
unfolding TurnBegins scene_of
waiting-requires c = held_small c.requires.0.holds

pub over-whole-requires : goal.over-whole-requires
unfolding TurnBegins scene_of
over-whole-requires c = let small = held_small c.requires.0.holds in (omega arith, omega arith, small.2, small.3)

pub make-requires : goal.make-requires
unfolding TurnBegins scene_of
make-requires c = rw c.over-whole.ensures (omega (arith, held_small c.requires.0.holds))

pub returns-in_err-made : goal.returns-in_err-made
unfolding TurnBegins TurnEnds scene_of noting
returns-in_err-made c before held =
    let (begins, bare, colon) = c.requires in
    rw c.from_residual-in_err-made.ensures (ascription_not held bare colon c.in_ok-due.ensures c.in_ok-read.ensures (rw c.over-whole.ensures at c.in_err-made.ensures))

pub returns : goal.returns
unfolding TurnBegins TurnEnds scene_of noting
returns c before held =
    let (begins, bare, colon) = c.requires in
    rw c.over-whole.ensures
    (ascription_turned held bare colon c.in_ok-due.ensures c.in_ok-read.ensures (rw (c.over-whole.ensures, c.waiting.ensures) at c.in_ok-made.ensures))
