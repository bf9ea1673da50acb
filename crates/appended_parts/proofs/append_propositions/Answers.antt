-- The invariant: the propositions below i are appended.
use mathlib.Core.Path.{◌≡◌, refl}
use native.Mathlib.Omega.{arith}
use Rattle.definitions.specs.Sheet.{propositions}
use Rattle.sheet.proofs.Admitted.{beside_header}
use Rattle.appended_parts.specs.Appended.{codes_below}
use Rattle.appended_parts.proofs.Turns.{turned, proposition_count, no_codes}
use Rattle.appended_parts.proofs.append_propositions.Goals as goal
use Rattle.appended_parts.proofs.append_propositions.Goals.{After-header-i-end}

all : (c : After-header-i-end) → c.header-i-end.result.propositions ≡ propositions c.args.donor.now
all c = proposition_count (beside_header c.header-i-end.ensures.is c.header-i-end.ensures.accepted)

pub loop-i-init : goal.loop-i-init
loop-i-init c = record { reached = omega arith; so = no_codes _ _ _ c.default-appended.ensures c.requires.room; pair_size = refl; byte_size = refl }

pub append_proposition-appended-requires-clause-i_bound : goal.append_proposition-appended-requires-clause-i_bound
append_proposition-appended-requires-clause-i_bound c =
    let here = (goal.at.append_proposition-appended-requires-clause-i_bound c).After-header-i-end in
    (omega (arith, all here, c.loop-i-test.true), c.requires.from_bound)

pub loop-i-preserved : goal.loop-i-preserved
loop-i-preserved c =
    let inv = c.loop-i.invariant in
    record {
      reached = omega (arith, all (goal.at.loop-i-preserved c).After-header-i-end, c.loop-i-test.true);
      so = c.append_proposition-appended.ensures;
      pair_size = omega (arith, inv.pair_size);
      byte_size = omega (arith, inv.byte_size);
    }

pub returns : goal.returns
returns c = turned (codes_below _ _) c.loop-i.invariant (omega (arith, all (goal.at.returns c).After-header-i-end, c.loop-i-test.false))
