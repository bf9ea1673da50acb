-- Where all the pairs up to a number end within the text, so does that number's own.
use Prim.Native.Nat.{ℕ}
use mathlib.Core.List.{List}
use native.Mathlib.Nat.{le_refl}
use Rattle.number.specs.Pairs.{NameWithin}
use Rattle.identifier.specs.Pairs.{PairsWithin}

pub last_within : {pairs text : List ℕ} {i : ℕ} → PairsWithin pairs text i → NameWithin pairs text i
last_within within = record { present = within.present; ends = within.ends _ (le_refl _) }
