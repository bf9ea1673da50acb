-- What is answered of a graft, what becomes of every byte of the lent memory and of every slot, and the tests from 27 on.
use Rattle.std.specs.Prelude.{ℕ, ◌≡◌, Bool, List, ◌++◌, length, drop, Result, Ok, Err}
use Rattle.definitions.specs.declared.Refusal.{Refusal}
use Rattle.definitions.specs.declared.Whose.{Whose}
use Rattle.definitions.specs.Outcome.{Outcome, ◌>>=◌, refuse_if}
use Rattle.definitions.specs.NameIndex.{index_of}
use Rattle.definitions.specs.Graft as graft
use Rattle.definitions.specs.Graft.{refused_by, merged, differ}
use Rattle.merged_sheet.specs.Merging.{limited}

-- 27, and then 28, where it is known whether the levels pass their limit, and 16
unfoldable pub equal_and_limited : List ℕ → List ℕ → ℕ → Bool → ℕ → Outcome (List ℕ)
equal_and_limited h d k deep room = do
  _ ← refuse_if (differ h d k) 27 0
  limited h d k deep room

unfoldable pub merged_of : graft.Grafted → Result ℕ (Whose × Refusal)
merged_of (refused_by w r) = Err (w, r)
merged_of (merged m) = Ok (length m)

unfoldable pub filled_by : graft.Grafted → List ℕ → List ℕ
filled_by (refused_by w r) before = before
filled_by (merged m) before = m ++ drop (length m) before

-- the slots are the index of the merged sheet's names, or what they were where there is none
unfoldable pub slots_by : graft.Grafted → List ℕ → List ℕ
slots_by (refused_by w r) before = before
slots_by (merged m) before = index_of m

pub record FillsBy (answer : graft.Grafted) (before after : List ℕ) (r : Result ℕ (Whose × Refusal)) : Type 0 where
  pub answered : r ≡ merged_of answer
  pub memory : after ≡ filled_by answer before
