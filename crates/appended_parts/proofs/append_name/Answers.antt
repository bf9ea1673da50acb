-- A name whose number was given before is passed over, and a new one is appended.
use mathlib.Core.Path.{◌≡◌, refl, sym, ◌∙◌}
use native.Mathlib.Omega.{arith}
use lib.ListN.{length}
use Rattle.std.proofs.Common.{rules}
use Rattle.definitions.specs.Sheet.{name_limit, name_of}
use Rattle.sheet.proofs.Admitted.{AcceptedSheet, with_header, beside_header}
use Rattle.equal_conclusions.proofs.Codes.{has_numbers}
use Rattle.equal_conclusions.proofs.Conclusions.{name_here, name_is}
use Rattle.appended_parts.specs.Appended.{Addable}
use Rattle.appended_parts.proofs.Pieces.{one_appended}
use Rattle.appended_parts.proofs.Short.{name_addable, name_room}
use Rattle.appended_parts.proofs.Turns.{name_count, text_size, text_within, few_names, not_new, name_appended}
use Rattle.appended_parts.proofs.append_name.Goals as goal
use Rattle.appended_parts.proofs.append_name.Goals.{After-header-h, After-name-piece}

host : (c : After-header-h) → AcceptedSheet c.args.sheets.now.host.now c.header-h.result
host c = beside_header c.header-h.ensures.is c.header-h.ensures.accepted

pub offset_bounds-sheets-n : goal.offset_bounds-sheets-n
offset_bounds-sheets-n c =
    omega (arith, has_numbers (with_header c.memory-donor.ensures.accepted) _ c.args.sheets.now.numbered.room, c.requires.n_bound)

pub bounds-sheets-n : goal.bounds-sheets-n
bounds-sheets-n c =
    omega (arith, has_numbers (with_header c.memory-donor.ensures.accepted) _ c.args.sheets.now.numbered.room, c.requires.n_bound)

pub overflow_add-h : goal.overflow_add-h
unfolding name_limit
overflow_add-h c =
    let record { n_bound = below; appends = so } = c.requires in
    let few = few_names (host (goal.at.overflow_add-h c).After-header-h) in
    omega (arith, few, (name_room (with_header c.memory-donor.ensures.accepted) c.args.sheets.now.host.now c.args.n below).0, so.count)

pub returns-then-sheets-n : goal.returns-then-sheets-n
returns-then-sheets-n c =
    let record { n_bound = below; appends = so } = c.requires in
    let numbered = c.args.sheets.now.numbered in
    let first = name_count (host (goal.at.returns-then-sheets-n c).After-header-h) in
    not_new _ _ below so first (λ e. c.if-sheets-n.true (numbered.stored _ below ∙ e))

pub name-piece-requires : goal.name-piece-requires
name-piece-requires c =
    let v = c.memory-donor.ensures in
    rw v.bytes (name_here (with_header v.accepted) v.vocabulary c.requires.n_bound)

-- the piece is the name, and fits
piece_is : (c : After-name-piece) → c.name-piece.result.now ≡ name_of c.args.sheets.now.donor.now c.args.n
piece_is c =
    let v = c.memory-donor.ensures in
    rw v.bytes at c.name-piece.ensures ∙ name_is (with_header v.accepted) v.vocabulary _

addable : (c : After-name-piece) → Addable c.header-h.result.text_length c.args.before (length c.name-piece.result.now)
addable c =
    let record { n_bound = below; appends = so } = c.requires in
    name_addable (with_header c.memory-donor.ensures.accepted) _ _ below (text_within (host (goal.at.After-name-piece c).After-header-h)) so (piece_is c)

pub append_pair-requires : goal.append_pair-requires
append_pair-requires c = addable (goal.at.append_pair-requires c).After-name-piece

pub returns : goal.returns
returns c =
    let record { n_bound = below; appends = so } = c.requires in
    let numbered = c.args.sheets.now.numbered in
    let here = (goal.at.returns c).After-name-piece in
    let accepted = host (goal.at.returns c).After-header-h in
    rw c.append_pair.ensures.more
    (name_appended _ _ below so (name_count accepted) (sym (numbered.stored _ below) ∙ c.if-sheets-n.false) (piece_is here) (text_size accepted)
    (λ pieces more. one_appended _ refl (addable here) more c.append_pair.ensures.pair (let stored = c.put_all.ensures.wrote.stored in search rules)))
