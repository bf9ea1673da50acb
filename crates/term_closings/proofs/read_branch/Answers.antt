-- The word and the name, and then the arrow.
use Rattle.term_closings.proofs.Branches.{branch_no_name, branch_no_arrow, branch_read}
use Rattle.term_closings.proofs.read_branch.Goals as goal

pub returns-in_err-name : goal.returns-in_err-name
returns-in_err-name c = rw c.from_residual.ensures (branch_no_name c.args.word.now c.args.names.now.text.now c.args.names.now c.args.at c.in_err-name.ensures)

pub returns-in_err-end : goal.returns-in_err-end
returns-in_err-end c =
    rw c.from_residual-in_err-end.ensures (branch_no_arrow c.args.names.now c.in_ok-name.ensures.holds c.in_err-end.ensures)

pub returns : goal.returns
returns c = branch_read c.args.names.now c.in_ok-name.ensures.holds c.in_ok-end.ensures
