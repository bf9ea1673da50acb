-- The numbers of a pair that is stored read back, and the bytes before it stay.
use Prim.Native.Nat.{ℕ, ◌+◌, ◌≤◌, ◌<◌}
use mathlib.Core.Path.{◌≡◌}
use mathlib.Core.List.{List, [], ◌∷◌}
use native.Mathlib.Omega.{arith}
use lib.ListN.{length, take}
use lib.Seq.{length-sets}
use Rattle.std.proofs.lemmas.Grind.{common_steps}
use Rattle.std.proofs.lemmas.List.Edits.{sets}
use Rattle.definitions.specs.Code.{u16}
use Rattle.definitions.specs.Sheet.{number_at}
use Rattle.output.specs.Numbers.{u16s}

module _ (memory : List ℕ) (at first second : ℕ) where
  abbrev after : List ℕ
  after = sets memory at (u16s (first ∷ second ∷ []))

  pub stored_length : length after ≡ length memory
  stored_length = length-sets memory at (u16s (first ∷ second ∷ []))

  pub stored_kept : (k : ℕ) → k ≤ at → take k after ≡ take k memory
  unfolding u16s u16
  stored_kept k h = grind (arith, common_steps)

  pub stored_first : at + 3 < length memory → number_at after at ≡ first
  unfolding u16s u16 number_at
  stored_first room = grind (arith, common_steps)

  pub stored_second : at + 3 < length memory → number_at after (at + 2) ≡ second
  unfolding u16s u16 number_at
  stored_second room = grind (arith, common_steps)
