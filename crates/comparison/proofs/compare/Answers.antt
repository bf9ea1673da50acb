-- A refusal of the sheet is the answer; an accepted sheet has the steps compared.
use Rattle.std.proofs.Common.{rules}
use Rattle.comparison.proofs.Steps.{not_a_sheet}
use Rattle.comparison.proofs.compare.Goals as goal

pub returns-in_err-sheet : goal.returns-in_err-sheet
returns-in_err-sheet c = let refuses = not_a_sheet _ c.args.i c.args.j c.in_err-sheet.ensures in search rules
