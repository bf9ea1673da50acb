-- The name's number.
use Rattle.prop_reader.proofs.Labels.{datatype_given}
use Rattle.prop_reader.proofs.read_datatype.Goals as goal

pub returns : goal.returns
returns c = datatype_given c.in_ok-number.ensures
