-- A part of the memory from a record's first number behind its kind, as long as its kind has parts.
use mathlib.Core.Path.{ap, ◌∙◌}
use Rattle.proof_term.specs.Records.{part_count}
use Rattle.proof_term.specs.Views.{kind_number}
use Rattle.proof_term.proofs.Views.{parts_of_kind, parts_there}
use Rattle.proof_term.proofs.nodes.parts_at.Goals as goal

pub returns : goal.returns
returns c =
    parts_there c.requires (c.part_count.ensures ∙ (ap (λ kind. part_count (kind_number kind)) c.kind_at.ensures ∙ parts_of_kind _))
