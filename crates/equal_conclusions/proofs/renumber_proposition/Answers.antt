-- A code over other numbers is as long as the code, and so it fits.
use Prim.Native.Nat.{◌≤◌}
use mathlib.Core.Path.{◌≡◌, refl}
use lib.ListN.{take}
use Rattle.std.proofs.Common.{rules}
use Rattle.definitions.specs.Sheet.{code_limit}
use Rattle.sheet.proofs.Admitted.{with_header}
use Rattle.equal_conclusions.specs.Equality.{code_over}
use Rattle.equal_conclusions.proofs.Codes.{whole_code, code_written, code_stored, names_in, has_numbers}
use Rattle.equal_conclusions.proofs.renumber_proposition.Goals as goal
use Rattle.equal_conclusions.proofs.renumber_proposition.Goals.{After-put_proposition}

pub put_proposition-requires : goal.put_proposition-requires
put_proposition-requires c =
    let accepted = c.proposition.ensures.accepted in
    let sheet = with_header accepted in
    rw c.header-names.ensures.is
    (whole_code sheet accepted.bytes _ c.requires.i_bound c.proposition.ensures.is, names_in sheet c.args.numbers.now (has_numbers sheet _ c.requires.room))

pub shape_of-memory : goal.shape_of-memory
shape_of-memory c =
    let accepted = c.proposition.ensures.accepted in
    let put = code_written (with_header accepted) accepted.bytes _ c.requires.i_bound c.proposition.ensures.is (rw c.header-names.ensures.is at c.put_proposition.ensures) in
    let same = put.same_memory in
    search rules

-- where the code ends, and what stands before
stored : (c : After-put_proposition) →
    let after = c.put_proposition.new.sink in
    (take after.to after.out.now ≡ code_over c.args.sheet.now c.args.numbers.now c.args.i) × (after.to ≤ code_limit)
unfolding code_limit
stored c =
    let accepted = c.proposition.ensures.accepted in
    let sheet = with_header accepted in
    code_stored sheet accepted.bytes _ c.requires.i_bound _ (search rules) refl
    (code_written sheet accepted.bytes _ c.requires.i_bound c.proposition.ensures.is (rw c.header-names.ensures.is at c.put_proposition.ensures))

pub shared_ref_as_front-result : goal.shared_ref_as_front-result
unfolding code_limit
shared_ref_as_front-result c = (stored (goal.at.shared_ref_as_front-result c).After-put_proposition).1

pub returns-clause-is : goal.returns-clause-is
returns-clause-is c = (stored (goal.at.returns-clause-is c).After-put_proposition).0
