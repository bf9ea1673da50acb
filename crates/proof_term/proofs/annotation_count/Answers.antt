-- The record itself is a node of the term that it holds.
use mathlib.Core.Path.{◌∙◌}
use Rattle.proof_term.specs.Tally.{tally_at, root}
use Rattle.proof_term.proofs.annotation_count.Goals as goal

pub returns : goal.returns
unfolding tally_at
returns c = λ props. c.field.ensures.0 ∙ c.requires.1.counts root props
