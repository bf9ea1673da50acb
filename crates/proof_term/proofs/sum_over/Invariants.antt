-- The loop adds the values of one part after the other.
use Prim.Native.Nat.{ℕ, ◌+◌, ◌*◌, ◌≤◌, ◌<◌}
use mathlib.Core.Path.{◌≡◌}
use lib.ListN.{length, get_or}
use Rattle.proof_term.specs.Tally.{tally_limit, sum_of}
use Rattle.proof_term.proofs.sum_over.Given as goal

abbrev pub invariant-loop-part : goal.invariant-loop-part
invariant-loop-part g l = record {
  low : l.sum ≤ 1 + tally_limit * l.part-index;
  sum : (is : ℕ → ℕ) → ((k r : ℕ) → k < length l.parts → goal.F-post g l.value (get_or l.parts k 0) r → r ≡ is (get_or l.parts k 0))
      → l.sum ≡ l.fn.own + sum_of l.part-index (λ i. is (get_or l.parts i 0));
}
