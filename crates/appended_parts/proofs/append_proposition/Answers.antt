-- The code over the merged numbers is as long as the code, so its pair has the code's length.
use mathlib.Core.Path.{sym, ap, ◌∙◌}
use lib.ListN.{length}
use Rattle.std.proofs.Common.{rules}
use Rattle.sheet.proofs.Admitted.{AcceptedSheet, beside_header}
use Rattle.equal_conclusions.proofs.Codes.{whole_code, code_written, code_length_lem, names_in}
use Rattle.appended_parts.specs.Appended.{Addable}
use Rattle.appended_parts.proofs.Pieces.{one_appended}
use Rattle.appended_parts.proofs.Short.{codes_more, code_addable}
use Rattle.appended_parts.proofs.append_proposition.Goals as goal
use Rattle.appended_parts.proofs.append_proposition.Goals.{After-proposition-source}

sheet : (c : After-proposition-source) → AcceptedSheet c.args.donor.now c.header-g.result
sheet c = beside_header c.header-g.ensures.is c.header-g.ensures.accepted

addable : (c : After-proposition-source) → Addable c.args.from c.args.before (length c.proposition-source.result.now)
addable c =
    let record { i_bound = (below, offset); numbers = _; appends = so } = c.requires in
    code_addable (sheet c) c.header-g.ensures.accepted.bytes c.args.numbers.now _ below offset so c.proposition-source.ensures.is

pub put_proposition-requires : goal.put_proposition-requires
put_proposition-requires c =
    let donor = sheet (goal.at.put_proposition-requires c).After-proposition-source in
    (whole_code donor c.header-g.ensures.accepted.bytes _ c.requires.i_bound.0 c.proposition-source.ensures.is, names_in donor _ c.requires.numbers)

pub append_pair-requires : goal.append_pair-requires
append_pair-requires c = addable (goal.at.append_pair-requires c).After-proposition-source

pub returns : goal.returns
returns c =
    let record { i_bound = (below, _); numbers = _; appends = so } = c.requires in
    let here = (goal.at.returns c).After-proposition-source in
    let bytes = c.header-g.ensures.accepted.bytes in
    let is = c.proposition-source.ensures.is in
    let size = code_length_lem (sheet here) bytes _ below c.args.numbers.now ∙ ap length (sym is) in
    let put = code_written (sheet here) bytes _ below is c.put_proposition.ensures in
    rw (c.append_pair.ensures.more, codes_more (sheet here) bytes c.args.numbers.now _)
    (one_appended _ size (addable here) so c.append_pair.ensures.pair (let stored = put.wrote.stored in let same = put.same_memory in search rules))
