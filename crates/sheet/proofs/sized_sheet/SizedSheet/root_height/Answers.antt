-- The nesting of the root is the last of the table of nestings.
use native.Mathlib.Omega.{arith}
use Rattle.definitions.specs.Sheet.{step_limit, tree_nesting_limit}
use Rattle.sheet.proofs.Admitted.{AcceptedSheet, beside_header}
use Rattle.sheet.proofs.RootHeight.{some_step, few_steps, all_steps, sizes_known, root_level}
use Rattle.sheet.proofs.sized_sheet.SizedSheet.root_height.Goals as goal
use Rattle.sheet.proofs.sized_sheet.SizedSheet.root_height.Goals.{After-header-steps}

its : (c : After-header-steps) → AcceptedSheet c.self.inside.admitted c.header-steps.result
its c = beside_header c.header-steps.ensures.is c.header-steps.ensures.accepted

pub invariant_of-sized : goal.invariant_of-sized
unfolding step_limit
invariant_of-sized c =
    let here = its (goal.at.invariant_of-sized c).After-header-steps in
    rw c.step_records-step_records.ensures.is
    record {
      sized = record {
        has_steps = all_steps here;
        few = few_steps here;
        within = omega (arith, few_steps here);
        sizes = sizes_known here c.self.invariant.1;
      };
    }

pub first_deep_tree-requires : goal.first_deep_tree-requires
unfolding step_limit
first_deep_tree-requires c = omega (arith, few_steps (its (goal.at.first_deep_tree-requires c).After-header-steps))

pub offset_bounds-heights-steps : goal.offset_bounds-heights-steps
unfolding step_limit
offset_bounds-heights-steps c = omega (arith, few_steps (its (goal.at.offset_bounds-heights-steps c).After-header-steps))

pub bounds-heights-steps : goal.bounds-heights-steps
unfolding step_limit
bounds-heights-steps c =
    let here = its (goal.at.bounds-heights-steps c).After-header-steps in omega (arith, few_steps here, some_step here)

pub returns : goal.returns
unfolding tree_nesting_limit
returns c =
    rw c.self.view_is
    at (root_level (its (goal.at.returns c).After-header-steps) c.step_records-step_records.ensures.is c.first_deep_tree.ensures)
