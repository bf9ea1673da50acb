-- Step records that are long enough.
use Rattle.std.specs.Prelude.{ℕ, ◌+◌, ◌*◌, ◌≤◌, List, length}
use Rattle.definitions.specs.Sheet.{step_size}

-- the records have the step of a number
abbrev pub HasStep : List ℕ → ℕ → Type 0
HasStep records k = step_size * (k + 1) ≤ length records

-- the records have so many steps
abbrev pub HasSteps : List ℕ → ℕ → Type 0
HasSteps records steps = step_size * steps ≤ length records
