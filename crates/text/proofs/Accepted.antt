-- The pair of an accepted sheet's goal is there.
use Prim.Native.Nat.{ℕ, ◌+◌, ◌*◌, ◌≤◌}
use mathlib.Core.Path.{◌≡◌}
use mathlib.Core.List.{List}
use native.Mathlib.Omega.{arith}
use lib.ListN.{length}
use Rattle.definitions.specs.Sheet.{pair_size, proposition_pairs}
use Rattle.sheet.specs.declared.header.Sheet.{Sheet}
use Rattle.sheet.specs.Header.{header_of}
use Rattle.sheet.specs.Admitted.{Accepted}
use Rattle.sheet.proofs.Admitted.{has_codes}

module _ {s : List ℕ} (a : Accepted s) where
  pub goal_pair : {h : Sheet} → h ≡ header_of s → pair_size * (h.goal + 1) ≤ length (proposition_pairs s)
  unfolding pair_size header_of
  goal_pair is = rw is (omega (arith, (has_codes a.sheet).pairs_within.present, a.sheet.in_range.goal))
