-- A caller's names, those that were read, and how many there are.
use Rattle.std.specs.Prelude.{ℕ, cond, List, [], ◌∷◌, ◌++◌, length, Option, None, Some}
use denote.Ref.{Bor}
use mathlib.Core.List.{map}
use Rattle.definitions.specs.Name.{Name}
use Rattle.definitions.specs.Exercises.{bad_names}

-- the names that some slices are
abbrev pub names_of : List (Bor (List ℕ)) → List Name
names_of slices = map (λ slice. slice.now) slices

-- one more, behind them
abbrev pub with_name : List Name → Name → List Name
with_name names name = names ++ (name ∷ [])

-- how many names there are, if they are names that may be asked about
unfoldable pub count_of : List Name → Option ℕ
count_of names = cond (bad_names names) None (Some (length names))
