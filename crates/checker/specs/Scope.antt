-- The names in scope: for each number the offset of its proposition, or none.
use Rattle.std.specs.Prelude.{ℕ, ◌<◌, ◌≡◌, List, length, get_or, Option, None, Some}
use Rattle.definitions.specs.Name.{Name}
use Rattle.definitions.specs.Prop.{Prop, rename_prop}
use Rattle.definitions.specs.CheckingRules.{Context, lookup}
use Rattle.prefix_code.specs.PropAt.{prop_at}
use Rattle.prop_numbers.specs.Standing.{name_space, Stood}

-- the proposition that an entry of the scope stands for, if any
unfoldable pub entry_prop : (ℕ → Name) → List ℕ → Option ℕ → Option (Prop Name)
entry_prop f code None = None
entry_prop f code (Some p) = Some (rename_prop f (prop_at name_space code p))

-- every entry of the scope stands
pub record Entries (code : List ℕ) (scope : List (Option ℕ)) : Type 0 where
  pub long : length scope ≡ name_space
  pub entry : (x p : ℕ) → x < name_space → get_or scope x None ≡ Some p → Stood code p

-- the scope holds, for each name, its latest binding
unfoldable pub Scoped : (ℕ → Name) → List ℕ → List (Option ℕ) → Context → Type 0
Scoped f code scope g = (x : ℕ) → x < name_space → lookup (f x) g ≡ entry_prop f code (get_or scope x None)
