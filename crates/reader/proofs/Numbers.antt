-- What it says that a number was read at a position, or that none was.
use Prim.Native.Nat.{ℕ, ◌+◌, ◌-◌, ◌≤◌, ◌<◌}
use mathlib.Core.Path.{◌≡◌, refl}
use mathlib.Core.Bool.{Bool, true, false, cond}
use mathlib.Core.List.{List}
use native.Mathlib.Omega.{arith}
use lib.Dec.{ltb}
use lib.ListN.{length}
use borrow.Author.Tests.{ltb-true, ltb-false}
use Rattle.definitions.specs.Sheet.{number_at}
use Rattle.reader.specs.Reading.{number_after}
use Rattle.std.specs.Prelude.{Some, None}

-- a number that is read stands whole before the end
pub record Stands (s : List ℕ) (at n : ℕ) : Type 0 where
  pub before : at + 1 < length s
  pub is : n ≡ number_at s at

module _ (s : List ℕ) (at : ℕ) where
  -- the definition's test, both ways
  tested_end : (t : Bool) → ltb (length s - at) 2 ≡ t → None ≡ cond t None (Some (number_at s at)) → length s < at + 2
  tested_end true e h = let left : length s - at < 2 = ltb-true _ _ e in omega arith
  tested_end false e h = grind arith

  tested_there : (n : ℕ) (t : Bool) → ltb (length s - at) 2 ≡ t → Some n ≡ cond t None (Some (number_at s at)) → Stands s at n
  tested_there n true e h = absurd (grind arith)
  tested_there n false e h = let left : 2 ≤ length s - at = ltb-false _ _ e in record { before = omega arith; is = cc }

  -- where no number stands, fewer than its two bytes are left
  pub missing : None ≡ number_after s at → length s < at + 2
  unfolding number_after
  missing = tested_end (ltb (length s - at) 2) refl

  -- where a number is read, it stands there
  pub there : {n : ℕ} → Some n ≡ number_after s at → Stands s at n
  unfolding number_after
  there {n} = tested_there n (ltb (length s - at) 2) refl
