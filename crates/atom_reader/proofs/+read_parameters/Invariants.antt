-- The calls end by the number of parameters that may follow.
use Rattle.atom_reader.proofs.+read_parameters.Given as goal

abbrev pub decreases-read_parameters : goal.decreases-read_parameters
decreases-read_parameters l = l.most
