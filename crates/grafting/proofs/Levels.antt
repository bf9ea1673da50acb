-- The steps above a step by the table of sizes.
use Prim.Native.Nat.{ℕ, zero, suc, ◌+◌, ◌≤◌, ◌<◌}
use mathlib.Core.Path.{◌≡◌, refl, ◌∙◌}
use mathlib.Core.Bool.{Bool, true, false, cond}
use mathlib.Core.List.{List, ◌∷◌}
use native.Mathlib.Omega.{arith}
use native.Mathlib.Decide.{dec_lt}
use native.Mathlib.Numerals.{add-one}
use lib.ListN.{get_or, drop, length}
use lib.Dec.{ltb}
use borrow.Author.Tests.{lt-ltb, le-ltb}
use Rattle.std.specs.List.{filter, range_with_len}
use Rattle.definitions.specs.Sheet.{step_limit, names, steps, proposition_pairs, code_bytes, step_records, premiss_count}
use Rattle.definitions.specs.Tree.{step_in, root_of}
use Rattle.writer_laws.proofs.Checks.{Checks, admitted_checks}
use Rattle.graft_laws.specs.Levels.{above, above_in}
use Rattle.graft_laws.proofs.Stack.{stack}
use Rattle.graft_laws.proofs.GraftSheets.{steps_of, counts_of, as_stack, one_root}
use Rattle.graft_laws.proofs.Above.{above_last, above_passed, above_taken, above_root}
use Rattle.steps.specs.Tables.{SizeTable}
use Rattle.steps.proofs.Premisses.{seam, tree_steps}
use Rattle.sheet.specs.declared.header.Sheet.{Sheet}
use Rattle.sheet.specs.Header.{header_of}
use Rattle.sheet.proofs.Admitted.{AcceptedSheet}

-- how many of some numbers in a row pass a test
module _ (passes : ℕ → Bool) where
  unfoldable pub passed : ℕ → ℕ → ℕ
  passed from n = length (filter passes (range_with_len from n))

  one_more : (b : Bool) (j : ℕ) (js : List ℕ) → length (cond b (j ∷ js) js) ≡ cond b 1 0 + length js
  one_more true j js = omega arith
  one_more false j js = omega arith

  first_passed : (from n : ℕ) → passed from (suc n) ≡ cond (passes from) 1 0 + passed (from + 1) n
  unfolding passed
  first_passed from n = one_more (passes from) from (filter passes (range_with_len (from + 1) n))

  none_passed : (from : ℕ) → passed from 0 ≡ 0
  unfolding passed
  none_passed from = refl

  at_most_one : (b : Bool) → cond b 1 0 ≤ 1
  at_most_one true = omega arith
  at_most_one false = omega arith

  pub few_passed : (from n : ℕ) → passed from n ≤ n
  unfolding passed
  few_passed from zero = omega arith
  few_passed from (suc n) = omega (arith, first_passed from n, at_most_one (passes from), few_passed (from + 1) n)

-- Of an accepted sheet and a step:
module _ {s : List ℕ} {h : Sheet} (a : AcceptedSheet s h) where
  checks : Checks s
  checks = (admitted_checks s (root_of s) a.root).0

  pub step_count : h.steps ≡ steps s
  unfolding header_of
  step_count = rw a.header

  pub few_steps : steps s ≤ step_limit
  unfolding header_of
  few_steps = a.sheet.in_range.steps

  numbers : (i : ℕ) → (steps_of s i).number ≡ i
  unfolding step_in
  numbers i = refl

  module _ (k : ℕ) where
    module _ {table : List ℕ} (sizes : SizeTable (step_records s) (steps s) table) where
      next_counted : (j : ℕ) → k < j → j < steps s
          → above_in k (stack (steps_of s) (counts_of s) (suc j)) ≡ above_in k (stack (steps_of s) (counts_of s) j) + cond (ltb j (k + get_or table j 0)) 1 0
      next_counted j later l =
          let (p, sm) = seam (names s) (proposition_pairs s) (code_bytes s) (step_records s) j (premiss_count (step_records s) j) in
          let below : drop (counts_of s j) (stack (steps_of s) (counts_of s) j) ≡ stack (steps_of s) (counts_of s) p =
          rw (← (as_stack s j), ← (as_stack s p)) sm.list in
          let ends = tree_steps (names s) (proposition_pairs s) (code_bytes s) (step_records s) j p sm in
          let sized = sizes.sizes (names s) (proposition_pairs s) (code_bytes s) j l in
          go (dec_lt j (k + get_or table j 0)) p below (omega arith)
        where
          go : Dec (j < k + get_or table j 0) → (p : ℕ) → drop (counts_of s j) (stack (steps_of s) (counts_of s) j) ≡ stack (steps_of s) (counts_of s) p
              → p + get_or table j 0 ≡ j + 1
              → above_in k (stack (steps_of s) (counts_of s) (suc j))
              ≡ above_in k (stack (steps_of s) (counts_of s) j) + cond (ltb j (k + get_or table j 0)) 1 0
          go (yes b) p below ends =
              rw (lt-ltb j (k + get_or table j 0) b) (above_taken (steps_of s) (counts_of s) numbers k j p later below (omega arith))
          go (no b) p below ends =
              rw (le-ltb j (k + get_or table j 0) (omega arith))
              (above_passed (steps_of s) (counts_of s) numbers k j p later below (omega arith) ∙ omega arith)

      -- the tree of a later step reaches step k
      unfoldable pub reaches : ℕ → Bool
      reaches j = ltb j (k + get_or table j 0)

      counted_from : (n j : ℕ) → k < j → j + n ≡ steps s
          → above_in k (stack (steps_of s) (counts_of s) j) + passed reaches j n ≡ above_in k (stack (steps_of s) (counts_of s) (steps s))
      unfolding reaches
      counted_from zero j later e = let last : j ≡ steps s = omega arith in rw last (omega (arith, none_passed reaches (steps s)))
      counted_from (suc n) j later e =
          let rest = rw (add-one j) at (counted_from n (j + 1) (omega arith) (omega arith)) in
          omega (arith, rw (add-one j) at (first_passed reaches j n), next_counted j later (omega arith), rest)

      pub all_counted : (n : ℕ) → k + 1 + n ≡ steps s → passed reaches (k + 1) n ≡ above k (root_of s)
      all_counted n e =
          let none : above_in k (stack (steps_of s) (counts_of s) (k + 1)) ≡ 0 = rw (add-one k) (above_last (steps_of s) (counts_of s) numbers k) in
          let all = counted_from n (k + 1) (omega arith) e in
          let root = above_root (steps_of s) (counts_of s) numbers k (steps s) (root_of s) (omega arith) (one_root s checks) in
          omega (arith, none, all, root)
