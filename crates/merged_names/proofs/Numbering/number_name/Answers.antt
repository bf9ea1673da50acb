-- A known number is stored, and a new name has the next.
use Prim.Native.Nat.{◌+◌, ◌<◌, ◌≤◌}
use mathlib.Core.Path.{refl}
use native.Mathlib.Omega.{arith}
use lib.ListN.{length-set}
use Rattle.definitions.specs.Sheet.{name_limit}
use Rattle.merged_names.proofs.Storing.{has_number, known_stored, new_stored, few_below}
use Rattle.merged_names.proofs.Numbering.number_name.Goals as goal
use Rattle.merged_names.proofs.Numbering.number_name.Goals.{In_default}

-- with so many names more than the host's, a sheet has numbers for them
small : (c : In_default) → c.args.sheets.now.host.memory.vocabulary.name_count + c.args.n < 65536
unfolding name_limit
small c =
    let sheets = c.args.sheets.now in
    omega (arith, sheets.host_indexed.count, sheets.host_indexed.few, sheets.donor_indexed.few, c.requires.below)

-- no more names are missing than came before
few : (c : In_default) → c.args.self.now.missing ≤ c.args.n
few c =
    let sheets = c.args.sheets.now in
    omega (arith, c.requires.so_far.missing, few_below sheets.host.memory.bytes.now sheets.donor.memory.bytes.now c.args.n)

pub overflow_add-self : goal.overflow_add-self
overflow_add-self c = let at = (goal.at.overflow_add-self c).In_default in omega (arith, small at, few at)

pub overflow_cast-self : goal.overflow_cast-self
overflow_cast-self c = let at = (goal.at.overflow_cast-self c).In_default in omega (arith, small at, few at)

pub overflow_add-self-in_default : goal.overflow_add-self-in_default
overflow_add-self-in_default c = let at = (goal.at.overflow_add-self-in_default c).In_default in omega (arith, small at, few at)

pub returns-in_default : goal.returns-in_default
returns-in_default c =
    let p = new_stored _ _ _ c.args.sheets.now.donor_indexed.few c.requires.below c.requires.so_far.numbered c.known_number.ensures c.in_default.is
    c.args.sheets.now.host_indexed.count c.requires.so_far.missing in
    record { so_far = record { numbered = p.1; missing = p.0 }; same_memory = record { same_memory = refl; same_length = length-set _ _ _ } }

pub overflow_cast-self-2 : goal.overflow_cast-self-2
overflow_cast-self-2 c = omega (arith, (has_number _ _ _ c.known_number.ensures c.in-Some.is).1)

pub returns : goal.returns
returns c =
    let p = known_stored _ _ _ c.args.sheets.now.donor_indexed.few c.requires.below c.requires.so_far.numbered c.known_number.ensures c.in-Some.is
    c.requires.so_far.missing in
    record { so_far = record { numbered = p.1; missing = p.0 }; same_memory = record { same_memory = refl; same_length = length-set _ _ _ } }
