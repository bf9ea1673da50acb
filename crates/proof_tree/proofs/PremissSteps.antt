-- The walk back over the later premisses ends at the step after the one that finishes the premiss.
use Prim.Native.Nat.{ℕ, ◌+◌, ◌-◌, ◌<◌}
use mathlib.Core.Path.{◌≡◌}
use mathlib.Core.Bool.{false}
use mathlib.Core.List.{List, []}
use native.Mathlib.Omega.{arith}
use Rattle.definitions.specs.Sheet.{premiss_count}
use Rattle.definitions.specs.Admission.{too_few_trees}
use Rattle.steps.proofs.Premisses.{premiss}
use Rattle.steps.proofs.Walk.{Walk, walk_within, walk_in}
use Rattle.proof_tree.specs.Premisses.{premisses_from, PremissStep}

module _
    {records : List ℕ}
    {k later p : ℕ}
    (w : Walk records k later p)
    (found : too_few_trees 0 [] [] records k ≡ false)
    (position : ℕ)
    (counted : position + 1 + later ≡ premiss_count records k)
  where
    pub some_step : 0 < p
    some_step = walk_in w found (omega arith)

    pub premiss_step : PremissStep records k position (p - 1)
    unfolding premisses_from
    premiss_step =
        let from : premiss_count records k - position ≡ later + 1 = omega arith in
        let after : premiss_count records k - (position + 1) ≡ later = omega arith in
        record {
          earlier = omega (arith, some_step, walk_within w);
          tree = λ names pairs code. rw (from, after) (premiss names pairs code records k later p (w.seam names pairs code) some_step).is_tree;
        }
