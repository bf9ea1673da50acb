-- A byte of code stands at p.
use mathlib.Core.Path.{◌∙◌}
use Rattle.prefix_code.proofs.Reading.{inside}
use Rattle.prop_numbers.proofs.Opening.{left_present}
use Rattle.prop_numbers.proofs.side_of.Goals as goal

pub bounds-code-p : goal.bounds-code-p
bounds-code-p c = (inside c.requires.0.there).start

pub known_end-requires : goal.known_end-requires
known_end-requires c = left_present _ _ c.args.connective c.requires.0.there (c.if-code-p.true ∙ c.byte.ensures)
