-- What the first pass counts, of a text that may be read.
use mathlib.Core.Path.{◌≡◌}
use borrow.Author.Rules.{rules}
use Rattle.std.specs.Prelude.{Err}
use Rattle.term_reader.proofs.Handed.{no_size, measured_size}
use Rattle.term_reader.proofs.term_size.Goals as goal

pub returns-in_err-readable : goal.returns-in_err-readable
returns-in_err-readable c =
    let same : c.from_residual.result ≡ Err c.in_err-readable.field-0.0 = search rules in
    rw same (no_size _ _ c.in_err-readable.ensures)

pub returns : goal.returns
returns c = rw c.new-table.ensures.0 at (measured_size _ _ _ _ _ c.measure.ensures)
