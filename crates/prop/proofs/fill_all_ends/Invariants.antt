-- The loop's invariant: the propositions before number i have their ends in the table, and filling in those of number i
-- keeps them.
use Prim.Native.Nat.{ℕ, ◌<◌}
use mathlib.Core.Path.{◌≡◌}
use lib.ListN.{length}
use Rattle.definitions.specs.Sheet.{pair_offset}
use Rattle.prop.specs.Ends.{Known}
use Rattle.prop.proofs.fill_all_ends.Given as goal

abbrev pub invariant-loop-i : goal.invariant-loop-i
invariant-loop-i l =
    (length l.ends ≡ length l.initial.ends) × ((j : ℕ) → j < l.i → Known l.names l.code l.ends (pair_offset l.pairs j))
