-- A datatype is its name, and a proposition stands at the label's number.
use mathlib.Core.Path.{ap, ◌∙◌}
use Rattle.definitions.specs.Term.{rename_label}
use Rattle.definitions.specs.Display.{display_label}
use Rattle.vocabulary.specs.Memory.{name_of}
use Rattle.prop.proofs.Shown.{below_as, put_as}
use Rattle.proof_term_display.proofs.put_label.Goals as goal

pub name-requires : goal.name-requires
name-requires g c = c.requires.named _ (below_as c.from.ensures (c.requires.datatype _ c.in-Datatype.is))

pub returns-in-Datatype : goal.returns-in-Datatype
unfolding rename_label display_label
returns-in-Datatype g c =
    rw c.in-Datatype.is (put_as g.S.Sink.puts (c.name.ensures ∙ ap (name_of c.args.propositions.now.memory) c.from.ensures) c.put_all.ensures)
