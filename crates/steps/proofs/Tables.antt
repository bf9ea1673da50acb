-- The tables of sizes and nestings, filled from step 0 upwards.
use Prim.Native.Nat.{ℕ, ◌+◌, ◌-◌, ◌≤◌, ◌<◌}
use mathlib.Core.Path.{◌≡◌, ◌∙◌}
use mathlib.Core.List.{List}
use native.Mathlib.Omega.{arith}
use lib.ListN.{length, get_or, set}
use lib.Seq.{get_or-set_same, get_or-set_other}
use borrow.Author.Count.{below_more}
use Rattle.std.specs.Prelude.{Some}
use Rattle.definitions.specs.Tree.{height, tree_in}
use Rattle.steps.specs.Size.{size}
use Rattle.steps.specs.Tables.{TreeStart, SizeTable, HeightTable}

-- one more entry
entries_more : (f : ℕ → ℕ) (table : List ℕ) (k v : ℕ) → k < length table → ((i : ℕ) → i < k → get_or table i 0 ≡ f i) → v ≡ f k
    → (i : ℕ) → i < k + 1 → get_or (set table k v) i 0 ≡ f i
entries_more f table k v h below e =
    below_more (λ i. get_or (set table k v) i 0 ≡ f i) k (λ i l. get_or-set_other table k i v 0 (omega arith) ∙ below i l)
    (get_or-set_same table k v 0 h ∙ e)

module _ (records table : List ℕ) where
  pub size_table_none : SizeTable records 0 table
  size_table_none =
      record { enough = λ names pairs code k h. absurd (omega arith); sizes = λ names pairs code k h. absurd (omega arith) }

  -- the tree that starts at a step and ends with step k has the steps between
  pub size_table_more : (k start : ℕ) → k < length table → SizeTable records k table → TreeStart records k (Some start)
      → SizeTable records (k + 1) (set table k (k + 1 - start))
  unfolding TreeStart
  size_table_more k start h t s =
      record {
        enough = λ names pairs code. below_more _ k (t.enough names pairs code) (s names pairs code).0;
        sizes = λ names pairs code.
            let e = (s names pairs code).1 in
            entries_more (λ i. size (tree_in names pairs code records i)) table k _ h (t.sizes names pairs code) (omega arith);
      }

  pub size_table_shorter : (m n : ℕ) → m ≤ n → SizeTable records n table → SizeTable records m table
  size_table_shorter m n h t =
      record {
        enough = λ names pairs code k l. t.enough names pairs code k (omega arith);
        sizes = λ names pairs code k l. t.sizes names pairs code k (omega arith);
      }

  pub height_table_none : HeightTable records 0 table
  height_table_none = record { heights = λ names pairs code k h. absurd (omega arith) }

  pub height_table_more : (k v : ℕ) → k < length table → HeightTable records k table
      → ((names : ℕ) (pairs code : List ℕ) → v ≡ height (tree_in names pairs code records k))
      → HeightTable records (k + 1) (set table k v)
  height_table_more k v h t e =
      record {
        heights = λ names pairs code.
            entries_more (λ i. height (tree_in names pairs code records i)) table k v h (t.heights names pairs code)
            (e names pairs code);
      }
