-- What the host's index says comes first, and then what the donor's own says.
use mathlib.Core.Path.{◌≡◌}
use Rattle.definitions.specs.Sheet.{name_of}
use Rattle.merged_names.proofs.Knowing.{its_name, searched, is_held, held_by_donor, is_earlier, is_new}
use Rattle.merged_names.proofs.Numbering.known_number.Goals as goal
use Rattle.merged_names.proofs.Numbering.known_number.Goals.{After-name-bytes}

-- the bytes are the donor's name
bytes : (c : After-name-bytes) → c.name-bytes.result.now ≡ name_of c.args.sheets.now.donor.memory.bytes.now c.args.n
bytes c = its_name c.args.sheets.now.donor_indexed _ c.name-bytes.ensures

pub returns-in-Some : goal.returns-in-Some
returns-in-Some c =
    is_held _ _ _ c.args.sheets.now.host_indexed.few c.args.sheets.now.donor_indexed.few c.requires.below
    (searched c.args.sheets.now.host_indexed (bytes (goal.at.returns-in-Some c).After-name-bytes) c.find.ensures) c.in-Some.is

pub returns-in_err-m : goal.returns-in_err-m
returns-in_err-m c =
    absurd (held_by_donor _ _ (searched c.args.sheets.now.donor_indexed (bytes (goal.at.returns-in_err-m c).After-name-bytes) c.find-2.ensures) c.requires.below
    c.in_err-m.was)

pub returns-then-m-n : goal.returns-then-m-n
returns-then-m-n c =
    rw c.from.ensures
    (is_earlier _ _ _ c.args.sheets.now.host_indexed.few c.args.sheets.now.donor_indexed.few c.requires.below
    (searched c.args.sheets.now.donor_indexed (bytes (goal.at.returns-then-m-n c).After-name-bytes) c.find-2.ensures) c.in_ok-m.was c.if-m-n.true
    c.requires.numbered)

pub returns : goal.returns
returns c =
    let x = goal.at.returns c in
    is_new _ _ _ c.args.sheets.now.host_indexed.few c.args.sheets.now.donor_indexed.few c.requires.below
    (searched c.args.sheets.now.donor_indexed (bytes x.After-name-bytes) c.find-2.ensures)
    (searched c.args.sheets.now.host_indexed (bytes x.After-name-bytes) c.find.ensures) c.in_default.is c.in_ok-m.was c.if-m-n.false
