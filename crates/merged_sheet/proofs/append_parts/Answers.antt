-- What is appended gives the header.
use mathlib.Core.Path.{refl}
use native.Mathlib.Omega.{arith}
use Rattle.definitions.specs.Sheet.{pair_size, name_limit}
use Rattle.sheet.proofs.Admitted.{AcceptedSheet, its_header, beside_header}
use Rattle.equal_conclusions.proofs.Codes.{has_numbers}
use Rattle.merged_sheet.specs.Parts.{Few}
use Rattle.merged_sheet.proofs.Bytes.{few_appended, few_codes, new_parts}
use Rattle.merged_sheet.proofs.append_parts.Goals as goal
use Rattle.merged_sheet.proofs.append_parts.Goals.{After-header-g, After-append_propositions-propositions}

host : (c : After-header-g) → AcceptedSheet c.args.sheets.now.host.now c.header-h.result
host c = beside_header c.header-h.ensures.is c.header-h.ensures.accepted

donor : (c : After-header-g) → AcceptedSheet c.args.sheets.now.donor.now c.header-g.result
donor c = beside_header c.header-g.ensures.is c.header-g.ensures.accepted

-- each name of the donor has a number
pub append_propositions-propositions-requires-clause-numbers : goal.append_propositions-propositions-requires-clause-numbers
append_propositions-propositions-requires-clause-numbers c =
    let here = (goal.at.append_propositions-propositions-requires-clause-numbers c).After-header-g in
    has_numbers (donor here) _ c.args.sheets.now.numbered.room

-- no more is appended than a sheet can have
few_new : (c : After-append_propositions-propositions) → Few c.append_names-names.result × Few c.append_propositions-propositions.result
few_new c =
    let here = (goal.at.After-append_propositions-propositions c).After-header-g in (
      few_appended (donor here) c.args.sheets.now.host.now c.append_names-names.ensures,
      few_codes (donor here) c.header-g.ensures.accepted.bytes c.args.sheets.now.numbers.now c.append_propositions-propositions.ensures,
    )

pub merged_header-header-requires : goal.merged_header-header-requires
merged_header-header-requires c =
    let at = goal.at.merged_header-header-requires c in
    let new = few_new at.After-append_propositions-propositions in
    ((its_header (host at.After-header-g)).in_range, (its_header (donor at.After-header-g)).in_range, new.0, new.1)

pub overflow_mul-result : goal.overflow_mul-result
unfolding name_limit
overflow_mul-result c = omega (arith, (few_new (goal.at.overflow_mul-result c).After-append_propositions-propositions).0.pieces)

pub shared_ref_as_front-result : goal.shared_ref_as_front-result
unfolding name_limit
shared_ref_as_front-result c = omega (arith, (few_new (goal.at.shared_ref_as_front-result c).After-append_propositions-propositions).0.pieces)

pub overflow_mul-result-2 : goal.overflow_mul-result-2
unfolding name_limit
overflow_mul-result-2 c = omega (arith, (few_new (goal.at.overflow_mul-result-2 c).After-append_propositions-propositions).1.pieces)

pub shared_ref_as_front-result-3 : goal.shared_ref_as_front-result-3
unfolding name_limit
shared_ref_as_front-result-3 c = omega (arith, (few_new (goal.at.shared_ref_as_front-result-3 c).After-append_propositions-propositions).1.pieces)

pub returns-clause-parts : goal.returns-clause-parts
unfolding pair_size
returns-clause-parts c =
    let here = (goal.at.returns-clause-parts c).After-header-g in
    new_parts (host here) (donor here) c.header-g.ensures.accepted.bytes c.args.sheets.now.numbered c.append_names-names.ensures
    c.append_propositions-propositions.ensures c.merged_header-header.ensures refl refl refl refl
