-- A table that is filled step by step, up to the first step at which a test holds.
use Prim.Native.Nat.{ℕ, ◌+◌, ◌≤◌, ◌<◌}
use mathlib.Core.Path.{◌≡◌, refl, ◌∙◌}
use mathlib.Core.Bool.{Bool, true, false}
use Rattle.std.specs.Prelude.{None, Option, Some, ℕ}
use mathlib.Core.List.{List}
use native.Mathlib.Omega.{arith}
use native.Mathlib.Nat.{le_refl}
use lib.ListN.{length, drop, set, length-set}
use lib.Seq.{drop-set-lt}
use Rattle.definitions.specs.Outcome.{lowest}
use Rattle.definitions.proofs.Lowest.{lowest_passed, found_here, found_nowhere}
use Rattle.steps.specs.Tables.{passed}

module _ (test : ℕ → List ℕ → List ℕ → ℕ → Bool) (Table : ℕ → List ℕ → Type 0) (steps : ℕ) (before : List ℕ) where
  -- the first k entries are filled, and at none of them the test holds; from entry k on the table is as before
  pub record Filling (now : List ℕ) (k : ℕ) : Type 0 where
    pub inside : k ≤ steps
    pub long : length now ≡ length before
    pub found : (names : ℕ) (pairs code : List ℕ) → lowest (test names pairs code) k ≡ None
    pub table : Table k now
    pub past : (j : ℕ) → k ≤ j → drop j now ≡ drop j before

  -- what the search answers, and the entries of the steps that it passed
  pub record Filled (r : Option ℕ) (after : List ℕ) : Type 0 where
    pub found : (names : ℕ) (pairs code : List ℕ) → r ≡ (lowest (test names pairs code) steps)
    pub table : Table (passed r steps) after
    pub kept : drop (passed r steps) after ≡ drop (passed r steps) before

  pub filling_none : Table 0 before → Filling before 0
  unfolding lowest
  filling_none t =
      record { inside = omega arith; long = refl; found = λ names pairs code. refl; table = t; past = λ j h. refl }

module _
    {test : ℕ → List ℕ → List ℕ → ℕ → Bool}
    {Table : ℕ → List ℕ → Type 0}
    {steps k : ℕ}
    {before now : List ℕ}
    (f : Filling test Table steps before now k)
  where
    -- the test fails at step k, and its entry is filled
    pub filling_more : (v : ℕ) → k < steps → ((names : ℕ) (pairs code : List ℕ) → test names pairs code k ≡ false)
        → Table (k + 1) (set now k v) → Filling test Table steps before (set now k v) (k + 1)
    filling_more v l fails t =
        record {
          inside = omega arith;
          long = simp length-set f.long;
          found = λ names pairs code. lowest_passed _ _ (f.found names pairs code) (fails names pairs code);
          table = t;
          past = λ j h. drop-set-lt j _ k _ (omega arith) ∙ f.past j (omega arith);
        }

    -- it holds there
    pub filling_stopped : k < steps → ((names : ℕ) (pairs code : List ℕ) → test names pairs code k ≡ true)
        → Filled test Table steps before (Some k) now
    unfolding passed
    filling_stopped l holds =
        record {
          found = λ names pairs code. found_here _ _ _ (f.found names pairs code) (holds names pairs code) l;
          table = f.table;
          kept = f.past _ (le_refl _);
        }

    -- no step is left
    pub filling_done : k ≡ steps → Filled test Table steps before None now
    unfolding passed
    filling_done e =
        record {
          found = λ names pairs code. found_nowhere _ _ _ (f.found names pairs code) e;
          table = rw e at f.table;
          kept = rw e at (f.past _ (le_refl _));
        }
