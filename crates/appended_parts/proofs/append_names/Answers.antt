-- The invariant: the missing names below n are appended.
use mathlib.Core.Path.{◌≡◌, refl}
use native.Mathlib.Omega.{arith}
use Rattle.definitions.specs.Sheet.{names}
use Rattle.graft_laws.specs.Missing.{missing_below}
use Rattle.sheet.proofs.Admitted.{beside_header}
use Rattle.appended_parts.proofs.Turns.{turned, name_count, no_names, all_names}
use Rattle.appended_parts.proofs.append_names.Goals as goal
use Rattle.appended_parts.proofs.append_names.Goals.{After-header-n-end}

all : (c : After-header-n-end) → c.header-n-end.result.names ≡ names c.args.sheets.now.donor.now
all c = name_count (beside_header c.header-n-end.ensures.is c.header-n-end.ensures.accepted)

pub loop-n-init : goal.loop-n-init
loop-n-init c = record { reached = omega arith; so = no_names _ _ _ c.default-appended.ensures c.requires; pair_size = refl; byte_size = refl }

pub append_name-appended-requires-clause-n_bound : goal.append_name-appended-requires-clause-n_bound
append_name-appended-requires-clause-n_bound c =
    omega (arith, all (goal.at.append_name-appended-requires-clause-n_bound c).After-header-n-end, c.loop-n-test.true)

pub loop-n-preserved : goal.loop-n-preserved
loop-n-preserved c =
    let inv = c.loop-n.invariant in
    record {
      reached = omega (arith, all (goal.at.loop-n-preserved c).After-header-n-end, c.loop-n-test.true);
      so = c.append_name-appended.ensures;
      pair_size = omega (arith, inv.pair_size);
      byte_size = omega (arith, inv.byte_size);
    }

pub returns : goal.returns
returns c =
    all_names _ _ (turned (missing_below _ _) c.loop-n.invariant (omega (arith, all (goal.at.returns c).After-header-n-end, c.loop-n-test.false)))
