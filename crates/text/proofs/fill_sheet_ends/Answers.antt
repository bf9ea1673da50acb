-- The parts of an accepted sheet are what the table of ends asks for.
use Rattle.text.proofs.Ends.{fillable, ends_known}
use borrow.Author.Rules.{rules}
use Rattle.text.proofs.fill_sheet_ends.Goals as goal

pub fill_all_ends-requires : goal.fill_all_ends-requires
fill_all_ends-requires c =
    let header = c.header-h.ensures in
    rw (c.proposition_pairs.ensures.is, c.code_bytes.ensures.is) (fillable header.accepted header.is (search rules))

pub returns : goal.returns
returns c =
    let header = c.header-h.ensures in
    ends_known header.accepted header.is (rw (c.proposition_pairs.ensures.is, c.code_bytes.ensures.is) at c.fill_all_ends.ensures)
