-- The invariant: the numbers of the names below n are stored.
use mathlib.Core.Path.{refl}
use native.Mathlib.Omega.{arith}
use Rattle.std.proofs.Common.{rules}
use Rattle.merged_names.proofs.Storing.{none_yet, all_filled}
use Rattle.merged_names.proofs.fill_numbers.Goals as goal

pub loop-n-init : goal.loop-n-init
loop-n-init c =
    record {
      all = c.args.sheets.now.donor_indexed.count;
      reached = omega arith;
      so_far = record { numbered = c.requires; missing = none_yet _ _ };
      same = record { same_memory = refl; same_length = refl };
    }

pub returns : goal.returns
returns c =
    let p = all_filled c.loop-n.invariant c.loop-n-test.false in
    let numbered = p.1 in
    let same = c.loop-n.invariant.same.same_memory in
    record { value = p.0; numbered = search rules }
