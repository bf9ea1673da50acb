-- What is kept of the steps' trees: the size and the nesting of each. They are the same for all names, pairs and code, since
-- the premiss counts alone say which steps a tree has.
use Rattle.std.specs.Prelude.{ℕ, ◌+◌, ◌≤◌, ◌<◌, ◌≡◌, true, false, List, length, get_or, drop, ltb, Option, None, Some}
use Rattle.definitions.specs.Outcome.{lowest}
use Rattle.definitions.specs.Tree.{height, tree_in}
use Rattle.definitions.specs.Admission.{too_few_trees}
use Rattle.definitions.specs.Sheet.{step_limit}
use Rattle.steps.specs.Records.{HasSteps}
use Rattle.steps.specs.Size.{size}

-- where the tree of step k starts: nowhere if the step finds too few trees, else so that the tree has the steps up to k
unfoldable pub TreeStart : List ℕ → ℕ → Option ℕ → Type 0
TreeStart records k None = (names : ℕ) (pairs code : List ℕ) → too_few_trees names pairs code records k ≡ true
TreeStart records k (Some start) =
    (names : ℕ) (pairs code : List ℕ)
    → (too_few_trees names pairs code records k ≡ false) × (start + size (tree_in names pairs code records k) ≡ k + 1)

-- each of the first steps finds its premisses, and the table has the size of its tree
pub record SizeTable (records : List ℕ) (steps : ℕ) (table : List ℕ) : Type 0 where
  pub enough : (names : ℕ) (pairs code : List ℕ) (k : ℕ)
      → k < steps → too_few_trees names pairs code records k ≡ false
  pub sizes : (names : ℕ) (pairs code : List ℕ) (k : ℕ)
      → k < steps → get_or table k 0 ≡ size (tree_in names pairs code records k)

-- so many steps are there, and the table has the size of each one's tree
pub record StepsSized (records : List ℕ) (steps : ℕ) (table : List ℕ) : Type 0 where
  pub has_steps : HasSteps records steps
  pub few : steps ≤ step_limit
  pub within : steps ≤ length table
  pub sizes : SizeTable records steps table

-- how many steps a search passes: those before the one that it finds, or else all
unfoldable pub passed : Option ℕ → ℕ → ℕ
passed None steps = steps
passed (Some k) steps = k

-- refusal 10's first part; of the steps that it passes the table has the sizes, and past them it is as before
pub record FilledSizes (records : List ℕ) (steps : ℕ) (before : List ℕ) (r : Option ℕ) (after : List ℕ) : Type 0 where
  pub found : (names : ℕ) (pairs code : List ℕ) → r ≡ (lowest (too_few_trees names pairs code records) steps)
  pub table : SizeTable records (passed r steps) after
  pub kept : drop (passed r steps) after ≡ drop (passed r steps) before

-- the table has the nesting of each of the first steps' trees
pub record HeightTable (records : List ℕ) (steps : ℕ) (table : List ℕ) : Type 0 where
  pub heights : (names : ℕ) (pairs code : List ℕ) (k : ℕ)
      → k < steps → get_or table k 0 ≡ height (tree_in names pairs code records k)

-- the lowest step whose tree nests deeper than a limit; of the steps passed the table has the nestings, and past them it is as before
pub record FilledHeights (records : List ℕ) (steps limit : ℕ) (before : List ℕ) (r : Option ℕ) (after : List ℕ) : Type 0 where
  pub found : (names : ℕ) (pairs code : List ℕ)
      → r ≡ (lowest (λ k. ltb limit (height (tree_in names pairs code records k))) steps)
  pub table : HeightTable records (passed r steps) after
  pub kept : drop (passed r steps) after ≡ drop (passed r steps) before
