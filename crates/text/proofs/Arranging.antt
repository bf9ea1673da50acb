-- Declarations of a sheet's names are sorted by the sheet's vocabulary.
use Prim.Native.Nat.{ℕ}
use mathlib.Core.List.{List}
use Rattle.std.proofs.Common.{◌≡◌, ◌⊎◌, inl, inr}
use Rattle.definitions.specs.declared.Version.{Version}
use Rattle.definitions.specs.declared.Version.TheVariants.{First, Second, Third}
use Rattle.definitions.specs.Text.{arranged}
use Rattle.declarations.specs.declared.Declaration.{Declaration}
use Rattle.declarations.specs.Memory.{Declared}
use Rattle.declaration_order.specs.Sorted.{Sorts}
use Rattle.text.specs.Declaring.{sheet_vocabulary, Arranges}

-- sorted they stand in the order of version 3
pub sorted : {s : List ℕ} {before after : List Declaration} → Sorts s (sheet_vocabulary s) before after → Arranges s Third before after
unfolding arranged
sorted sorts = record { table = sorts.table; entries = sorts.sorted }

-- in versions 1 and 2 they stand as they are
pub unsorted : {s : List ℕ} {v : Version} {declared : List Declaration} → (v ≡ First) ⊎ (v ≡ Second) → Declared s (sheet_vocabulary s) declared
    → Arranges s v declared declared
unfolding arranged
unsorted (inl first) table = record { table = table; entries = rw first }
unsorted (inr second) table = record { table = table; entries = rw second }
