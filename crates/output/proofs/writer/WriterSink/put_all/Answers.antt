-- What fits is stored, and the position is past the end where not all of it fits.
use mathlib.Core.Path.{refl}
use Rattle.output.proofs.Writing.{fits_whole, fits_partly, fitting_part}
use Rattle.output.proofs.writer.WriterSink.put_all.Goals as goal

pub returns-then-count-s : goal.returns-then-count-s
returns-then-count-s g c =
    let fits = c.fitting-count.ensures in
    record { wrote = fits_partly refl fits (fitting_part _ _ _ fits c.copy.ensures) c.if-count-s.true; same_memory = refl }

pub returns : goal.returns
returns g c =
    let fits = c.fitting-count.ensures in
    record { wrote = fits_whole refl fits (fitting_part _ _ _ fits c.copy.ensures) c.if-count-s.false; same_memory = refl }
