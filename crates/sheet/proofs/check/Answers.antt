-- Where a stage refuses before the trees, the table is as it was.
use Rattle.sheet.proofs.Order.{header_sizes, name_sizes, proposition_sizes, step_sizes, tree_sizes}
use Rattle.sheet.proofs.check.Goals as goal

pub returns-in_err-header-clause-sized : goal.returns-in_err-header-clause-sized
returns-in_err-header-clause-sized c = header_sizes _ c.in_err-header.ensures _

pub returns-in_err-check_names-clause-sized : goal.returns-in_err-check_names-clause-sized
returns-in_err-check_names-clause-sized c = name_sizes _ c.in_ok-header.ensures c.in_err-check_names.ensures _

pub returns-in_err-check_propositions-clause-sized : goal.returns-in_err-check_propositions-clause-sized
returns-in_err-check_propositions-clause-sized c =
    proposition_sizes _ c.in_ok-header.ensures c.in_ok-check_names.ensures c.in_err-check_propositions.ensures _

pub returns-in_err-check_steps-clause-sized : goal.returns-in_err-check_steps-clause-sized
returns-in_err-check_steps-clause-sized c =
    step_sizes _ c.in_ok-header.ensures c.in_ok-check_names.ensures c.in_ok-check_propositions.ensures c.in_err-check_steps.ensures _

pub returns-in_err-check_trees-clause-sized : goal.returns-in_err-check_trees-clause-sized
returns-in_err-check_trees-clause-sized c =
    tree_sizes _ c.in_ok-header.ensures c.in_ok-check_names.ensures c.in_ok-check_propositions.ensures c.in_ok-check_steps.ensures
    c.check_trees.ensures.sized

pub returns-clause-sized : goal.returns-clause-sized
returns-clause-sized c =
    tree_sizes _ c.in_ok-header.ensures c.in_ok-check_names.ensures c.in_ok-check_propositions.ensures c.in_ok-check_steps.ensures
    c.check_trees.ensures.sized
