-- A bracket follows, or there are none.
use Rattle.definitions.specs.Code.{parameter_limit}
use Rattle.atom_reader.proofs.Atoms.{no_parameters, some_parameters}
use Rattle.atom_reader.proofs.atom_parameters.Goals as goal

pub returns-in_default : goal.returns-in_default
returns-in_default c ns b = no_parameters ns c.in_default.ensures c.requires

pub returns : goal.returns
unfolding parameter_limit
returns c ns b = some_parameters ns c.read_parameters.result c.in-Some.ensures (c.read_parameters.ensures ns b)
