-- Where there is a number it is handed over, and where there is none that of a free slot.
use Prim.Native.Nat.{ℕ}
use mathlib.Core.Path.{◌≡◌, refl}
use Rattle.std.proofs.Common.{rules}
use Rattle.std.specs.Prelude.{Option, None, Some, unwrap_or}
use Rattle.definitions.specs.NameIndex.{free}
use Rattle.skriduhol_c.specs.Handed.{number_or_free}
use Rattle.skriduhol_c.proofs.number_or_free.Goals as goal

or_free : (o : Option ℕ) → unwrap_or o free ≡ number_or_free o
unfolding number_or_free
or_free None = refl
or_free (Some n) = refl

pub returns : goal.returns
unfolding free
returns c = rw (← or_free c.args.found) (search rules)
