-- A refusal leaves the slots; a merged sheet stands at the start of the memory, and the slots are the index of its names.
use mathlib.Core.Path.{ap}
use lib.ListN.{length, drop}
use Rattle.std.proofs.Common.{rules}
use Rattle.sheet.proofs.Admitted.{with_header}
use Rattle.restating.proofs.Answers.{told}
use Rattle.grafting.proofs.Answers.{within_both, few_names, built, stays-refused, Stands, stands, in_range, vocabulary-is, indexed}
use Rattle.grafting.proofs.graft_indexed.Goals as goal
use Rattle.grafting.proofs.graft_indexed.Goals.{In_ok-m}

pub returns-in_err-m : goal.returns-in_err-m
returns-in_err-m c =
    let p = stays-refused _ _ _ _ c.graft_accepted.ensures.merging c.in_err-m.was _ in
    record { fills = told p.0 (search rules); slots_after = p.1 }

-- the merged sheet
sheet_here : (c : In_ok-m) → Stands c.args.host.now c.args.donor.now c.args.k _ c.graft_accepted.ensures.merging c.in_ok-m.m
sheet_here c =
    let (host, donor) = c.graft_accepted.ensures.accepted in
    stands (with_header host) (with_header donor) host.bytes donor.bytes _ _ c.graft_accepted.ensures.merging c.in_ok-m.was

pub vocabulary-requires : goal.vocabulary-requires
vocabulary-requires c = in_range _ _ _ _ _ (sheet_here (goal.at.vocabulary-requires c).In_ok-m)

pub build-requires : goal.build-requires
build-requires c =
    let o = sheet_here (goal.at.build-requires c).In_ok-m in
    let is = vocabulary-is _ _ _ _ _ o c.vocabulary.ensures in
    let rest = drop (length o.sheet) c.args.out.now in
    record { within = within_both o.has rest is o.memory; name_count_bound = few_names o.has rest is }

pub layout-requires : goal.layout-requires
layout-requires c = in_range _ _ _ _ _ (sheet_here (goal.at.layout-requires c).In_ok-m)

pub returns : goal.returns
returns c =
    let p = let o = sheet_here (goal.at.returns c).In_ok-m in
    let is = vocabulary-is _ _ _ _ _ o c.vocabulary.ensures in
    indexed _ _ _ _ _ o _ (ap (λ l. l.end) c.layout.ensures) (built o.has _ is o.memory c.build.ensures) in
    record { fills = p.0; slots_after = p.1 }
