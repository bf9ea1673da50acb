-- The pair of a proposition lies within the code.
use Rattle.sheet.proofs.Given.{pair_within}
use Rattle.sheet.proofs.Admitted.{has_codes}
use Rattle.sheet.proofs.admitted_sheet.AdmittedSheet.proposition.Goals as goal

pub piece-requires : goal.piece-requires
piece-requires c =
    let propositions = c.marked_propositions.ensures in
    rw (propositions.pairs, propositions.code) (pair_within (has_codes propositions.accepted.sheet).pairs_within c.requires)
