-- A datatype is its name, and a proposition stands at the label's number.
use mathlib.Core.Path.{ap, ◌∙◌}
use native.Mathlib.Omega.{arith}
use lib.ListN.{length}
use Rattle.definitions.specs.Term.{rename_label}
use Rattle.definitions.specs.Display.{display_label}
use Rattle.vocabulary.specs.Memory.{name_of}
use Rattle.prefix_code.proofs.Reading.{inside}
use Rattle.proof_term_length.proofs.Measure.label_length.Goals as goal

pub known_length-requires-clause-printable : goal.known_length-requires-clause-printable
known_length-requires-clause-printable c =
    let label = c.requires.has_label in
    let known = label.proposition _ c.in-Proposition.is in
    rw c.from-in-Proposition.ensures (
      record { within = label.within; known = known; named = label.named },
      omega (arith, (inside known.present).start, c.requires.short),
    )

pub returns-in-Datatype : goal.returns-in-Datatype
unfolding rename_label display_label
returns-in-Datatype c =
    let name = c.name_length.ensures in
    let names = name_of c.args.self.now.printer.propositions.memory in
    rw c.in-Datatype.is (record { is = name.is ∙ ap (λ i. length (names i)) c.from.ensures; small = omega (arith, name.small) }, c.requires.known)
