-- The colon, and then the label.
use Rattle.term_openings.proofs.ParameterLabels.{no_label, label_begins, label_lacks, some_label}
use Rattle.term_openings.proofs.parameter_label.Goals as goal

pub returns-in_default : goal.returns-in_default
returns-in_default c = no_label c.requires c.in_default.ensures

pub read_label-requires : goal.read_label-requires
read_label-requires c = label_begins c.in-Some.ensures c.requires

pub returns-in_err-read : goal.returns-in_err-read
returns-in_err-read c =
    rw c.from_residual.ensures (label_lacks c.requires c.in-Some.ensures c.in_err-read.ensures)

pub returns : goal.returns
returns c = some_label c.requires c.in-Some.ensures c.in_ok-read.ensures
