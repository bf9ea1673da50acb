-- A list of names is admitted where all its names are.
use mathlib.Core.Path.{◌≡◌, refl, ap}
use mathlib.Core.Bool.{◌&&◌}
use mathlib.Core.List.{List, [], ◌∷◌}
use Rattle.std.specs.List.{list_all}
use Rattle.definitions.specs.Name.{Name}
use Rattle.definitions.specs.TermText.{is_admitted, all_admitted}

pub all_of : (names : List Name) → list_all is_admitted names ≡ all_admitted names
unfolding all_admitted
all_of [] = refl
all_of (a ∷ rest) = ap (λ t. is_admitted a && t) (all_of rest)
