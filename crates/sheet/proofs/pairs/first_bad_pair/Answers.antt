-- The loop keeps the last pair's end beside the number of the next pair.
use mathlib.Core.Path.{refl}
use native.Mathlib.Omega.{arith}
use native.Mathlib.Numerals.{add-one}
use borrow.Author.Tests.{ltb-true, ltb-false}
use Rattle.definitions.specs.Sheet.{pair_end, last_end}
use Rattle.definitions.proofs.Lowest.{found_here}
use Rattle.definitions.proofs.Upward.{at_start, onward}
use Rattle.sheet.proofs.Placed.{good_passes, bad_pair_lem}
use Rattle.std.proofs.Common.{rules}
use Rattle.sheet.proofs.pairs.first_bad_pair.Goals as goal
use Rattle.sheet.proofs.pairs.first_bad_pair.Goals.{then-offset-last_end-via-then-offset-last_end, then-offset-last_end-via-else-offset-last_end+then-bytes-end, then-offset-last_end-via-else-offset-last_end+else-bytes-end+then-not-contains}

pub loop-i-init : goal.loop-i-init
unfolding last_end
loop-i-init c = (at_start _ _, refl)

pub returns-then-offset-last_end : goal.returns-then-offset-last_end
unfolding pair_end
returns-then-offset-last_end c =
    found_here _ _ _ c.loop-i.invariant.0.none_below
    (bad_pair_lem _ _ _ _ λ g.
    elim c.then-offset-last_end.branch [
      | then-offset-last_end-via-then-offset-last_end w ↦ omega arith
      | then-offset-last_end-via-else-offset-last_end+then-bytes-end w ↦ omega (arith, ltb-true)
      | then-offset-last_end-via-else-offset-last_end+else-bytes-end+then-not-contains w ↦ search rules
    ])
    c.loop-i-test.true

pub loop-i-preserved : goal.loop-i-preserved
unfolding pair_end last_end
loop-i-preserved c = (
  onward c.loop-i.invariant.0 c.loop-i-test.true (good_passes _ _ _ _ record {
    sorted = omega (arith, ltb-false);
    within = omega (arith, ltb-false);
    some_byte = search rules;
    not_too_long = search rules;
  }),
  rw (add-one, last_end) (omega arith),
)
