-- Reading the strict text of an exported term restores that term with its ids set to 0, under the provisos of ticket 2.
use Prim.Native.Nat.{ℕ}
use mathlib.Core.List.{List}
use Rattle.definitions.specs.Name.{Name}
use Rattle.definitions.proofs.PrefixCode.{Bytes}
use Rattle.reading_laws.specs.Restoring.{Restores}
use Rattle.reading_laws.proofs.TermAnswer.{answers_restored}
use Rattle.reading_laws.proofs.SheetLimits.{sheet_limited}

-- of every sheet, which is made of bytes
pub restored : (s : List ℕ) (types : List Name) → Bytes s → Restores s types
unfolding Restores
restored s types bytes t exports restorable short listed =
    let fits = sheet_limited s bytes t exports in answers_restored types t restorable fits.1 fits.0 short listed
