-- The term's length is counted, and then that of the lines before it.
use Rattle.text.proofs.Heading.{text_long}
use Rattle.text.proofs.text_length.Goals as goal

pub returns : goal.returns
returns c =
    let sheet = c.sheet-sheet.ensures in text_long sheet.held _ _ c.measure_term-term.ensures (rw sheet.is at c.heading_length.ensures)
