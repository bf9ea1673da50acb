-- The pair marks the proposition's own code.
use Rattle.sheet.proofs.Admitted.{beside_header}
use Rattle.equal_conclusions.proofs.Codes.{whole_code}
use Rattle.hypotheses.proofs.Free.{its_code, its_names, free_named}
use Rattle.hypotheses.proofs.is_free.Goals as goal

pub is_quantifier_free-requires : goal.is_quantifier_free-requires
is_quantifier_free-requires c =
    let header = c.header.ensures in
    whole_code (beside_header header.is header.accepted) header.accepted.bytes _ c.requires c.proposition.ensures.is

pub returns : goal.returns
returns c =
    let header = c.header.ensures in
    free_named _ _ (c.is_quantifier_free.ensures _ (its_names header.accepted c.requires header.is)
    (its_code header.accepted c.requires c.proposition.ensures.is))
