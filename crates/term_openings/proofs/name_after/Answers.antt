-- The bytes, and then the name.
use Rattle.term_openings.proofs.FirstWords.{bytes_not, name_after}
use Rattle.term_openings.proofs.name_after.Goals as goal

pub returns-in_err-start : goal.returns-in_err-start
returns-in_err-start c =
    rw c.from_residual.ensures (bytes_not c.args.what.now c.args.names.now.text.now c.args.names.now c.args.at c.in_err-start.ensures)

pub returns : goal.returns
returns c = name_after c.args.names.now c.in_ok-start.ensures c.read_name.new.names c.read_name.result c.read_name.ensures
