-- Two codes over the merged numbers are equal just where the propositions are.
use mathlib.Core.Path.{◌∙◌}
use Rattle.sheet.proofs.Admitted.{with_header}
use Rattle.equal_conclusions.proofs.Codes.{by_codes}
use Rattle.equal_conclusions.proofs.same_propositions.Goals as goal

pub returns : goal.returns
returns c =
    let ours = c.renumber_proposition-ours.ensures in
    let theirs = c.renumber_proposition-theirs.ensures in
    let record { p_bound = (p, q); numbered = numbered } = c.requires in
    c.same_name.ensures
    ∙ by_codes (with_header ours.accepted) (with_header theirs.accepted) ours.accepted.bytes theirs.accepted.bytes numbered c.args.sheets.now.numbered _ _ p q ours.is theirs.is
