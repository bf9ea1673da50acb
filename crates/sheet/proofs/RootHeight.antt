-- The nesting of an accepted sheet's root is the last of the table of nestings, since refusal 11 finds no step.
use Prim.Native.Nat.{ℕ, zero, suc, ◌-◌, ◌≤◌, ◌<◌}
use mathlib.Core.Path.{◌≡◌, refl, ◌∙◌}
use mathlib.Core.Bool.{Bool, false}
use mathlib.Core.List.{List}
use native.Mathlib.Omega.{arith}
use native.Mathlib.Numerals.{add-one}
use lib.ListN.{get_or}
use borrow.Author.Tests.{le-ltb}
use Rattle.std.specs.Prelude.{Option, None}
use Rattle.definitions.specs.Outcome.{lowest}
use Rattle.definitions.specs.Sheet.{step_limit, tree_nesting_limit, names, steps, proposition_pairs, code_bytes, step_records}
use Rattle.definitions.specs.Tree.{height, tree_of, root_of}
use Rattle.definitions.specs.Admission.{deep_tree}
use Rattle.definitions.proofs.Lowest.{lowest_passed}
use Rattle.steps.specs.Records.{HasSteps}
use Rattle.steps.specs.Tables.{SizeTable, HeightTable, FilledHeights, passed}
use Rattle.sheet.specs.declared.header.Sheet.{Sheet}
use Rattle.sheet.specs.Header.{header_of}
use Rattle.sheet.proofs.Admitted.{AcceptedSheet, has_steps}

-- a test that fails below a count has no lowest place there
none_below : (test : ℕ → Bool) (count : ℕ) → ((k : ℕ) → k < count → test k ≡ false) → lowest test count ≡ None
unfolding lowest
none_below test zero fails = refl
none_below test (suc count) fails =
    rw add-one at (lowest_passed test count (none_below test count (λ k l. fails k (omega arith))) (fails count (omega arith)))

-- Of an accepted sheet:
module _ {s : List ℕ} {h : Sheet} (a : AcceptedSheet s h) where
  pub some_step : 1 ≤ h.steps
  some_step = rw a.header a.sheet.in_range.some_step

  pub few_steps : h.steps ≤ step_limit
  few_steps = rw a.header a.sheet.in_range.steps

  pub all_steps : HasSteps (step_records s) h.steps
  unfolding header_of
  all_steps = rw a.header (has_steps a.sheet)

  pub sizes_known : {table : List ℕ} → SizeTable (step_records s) (steps s) table → SizeTable (step_records s) h.steps table
  unfolding header_of
  sizes_known t = rw a.header t

  shallow : lowest (deep_tree (names s) (proposition_pairs s) (code_bytes s) (step_records s)) (steps s) ≡ None
  unfolding deep_tree tree_of
  shallow = none_below _ _ (λ k l. le-ltb _ _ (a.sheet.shallow_tree k l))

  all_shallow : {r : Option ℕ} {before after : List ℕ} → FilledHeights (step_records s) (steps s) tree_nesting_limit before r after
      → HeightTable (step_records s) (steps s) after
  unfolding deep_tree passed
  all_shallow {r} f =
      let nowhere : r ≡ None = f.found (names s) (proposition_pairs s) (code_bytes s) ∙ shallow in
      rw nowhere at f.table

  pub root_level : {records : List ℕ} {r : Option ℕ} {before after : List ℕ} → records ≡ step_records s
      → FilledHeights records h.steps tree_nesting_limit before r after → get_or after (h.steps - 1) 0 ≡ height (root_of s)
  unfolding header_of root_of tree_of
  root_level e f =
      let some = a.sheet.in_range.some_step in
      let root = (all_shallow (rw (e, a.header) at f)).heights (names s) (proposition_pairs s) (code_bytes s) (steps s - 1) (omega arith) in
      rw a.header root
