-- Nothing is written where there is no label, else a colon and the label.
use Rattle.definitions.specs.Term.{rename_parameter_label}
use Rattle.definitions.specs.Display.{display_parameter_label}
use Rattle.proof_term_display.proofs.put_parameter_label.Goals as goal

pub returns : goal.returns
unfolding rename_parameter_label display_parameter_label
returns g c = rw c.in-Some.is (g.met.S.Sink.laws.then c.put_all.ensures c.put_label.ensures)
