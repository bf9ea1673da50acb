-- The parameter, its label, and then an entry for the body.
use native.Mathlib.Omega.{arith}
use Rattle.term_stack.specs.Standing.{left_at}
use Rattle.term_stack.specs.Turning.{scene_of, TurnBegins, TurnEnds}
use Rattle.term_stack.proofs.Opened.{opens}
use Rattle.term_openings.proofs.Noting.{noting}
use Rattle.term_openings.proofs.Functions.{parameter_not, label_place, label_not, arrow_not, function_comes, function_long, function_opens}
use Rattle.term_openings.proofs.start_function.Goals as goal

pub returns-in_err-name : goal.returns-in_err-name
unfolding TurnEnds scene_of
returns-in_err-name c before started = rw c.from_residual.ensures (parameter_not started c.in_err-name.ensures)

pub parameter_label-requires : goal.parameter_label-requires
unfolding TurnBegins scene_of
parameter_label-requires c = label_place c.requires.holds c.in_ok-name.ensures

pub returns-in_err-read : goal.returns-in_err-read
unfolding TurnEnds scene_of
returns-in_err-read c before started =
    rw c.from_residual-in_err-read.ensures (label_not started c.in_ok-name.ensures c.in_err-read.ensures)

pub returns-in_err-body : goal.returns-in_err-body
unfolding TurnEnds scene_of
returns-in_err-body c before started =
    rw c.from_residual-in_err-body.ensures (arrow_not started c.in_ok-name.ensures c.in_ok-read.ensures c.in_err-body.ensures)

pub returns : goal.returns
unfolding TurnEnds scene_of noting left_at
returns c before started =
    let there = c.in_ok-name.ensures in
    let given = c.in_ok-read.ensures in
    let arrow = c.in_ok-body.ensures in
    let long = function_long started there given arrow in
    opens (function_opens started there given arrow) (function_comes started there given arrow) _ _ c.enter.ensures _ (omega (arith, long))
