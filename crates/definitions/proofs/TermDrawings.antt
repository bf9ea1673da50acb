-- By computation: every text of the table is read, or refused, as ticket 2 says.
use mathlib.Core.Path.{◌≡◌, refl}
use mathlib.Core.List.{map}
use Rattle.definitions.specs.TermDrawings.{term_drawings, read, due}
use Rattle.definitions.proofs.Everything.{everything}

pub term_drawings_hold : map read term_drawings ≡ map due term_drawings
unfolding everything
term_drawings_hold = refl
