-- What the checks leave in the table of sizes that is lent to them.
use Rattle.std.specs.Prelude.{ℕ, ◌≡◌, List, drop}
use Rattle.definitions.specs.Outcome.{Outcome, refused, accepted, lowest}
use Rattle.definitions.specs.Sheet.{names, steps, proposition_pairs, step_records, code_bytes}
use Rattle.definitions.specs.Admission.{header_checks, too_few_trees}
use Rattle.steps.specs.Tables.{SizeTable, passed}
use Rattle.sheet.specs.Checks.{name_checks, proposition_checks, step_checks}

-- the steps before the first that finds too few trees, or else all
unfoldable pub steps_finding_trees : List ℕ → ℕ
steps_finding_trees s =
    passed ((lowest (too_few_trees (names s) (proposition_pairs s) (code_bytes s) (step_records s)) (steps s))) (steps s)

-- so many steps where a stage accepts, and none where it refuses
unfoldable pub unless_refused : {A : Type 0} → Outcome A → ℕ → ℕ
unless_refused (refused r) count = 0
unless_refused (accepted a) count = count

-- how many steps' trees are sized: none where one of 1 to 9 refuses
unfoldable pub sized_steps : List ℕ → ℕ
sized_steps s =
    unless_refused (header_checks s)
    (unless_refused (name_checks s)
    (unless_refused (proposition_checks s)
    (unless_refused (step_checks s) (steps_finding_trees s))))

-- of the first steps the table has the sizes of their trees, and past them it is as before
pub record Sized (s : List ℕ) (count : ℕ) (before after : List ℕ) : Type 0 where
  pub table : SizeTable (step_records s) count after
  pub kept : drop count after ≡ drop count before
