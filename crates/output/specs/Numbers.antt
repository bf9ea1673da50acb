-- The bytes of numbers, one after another.
use Rattle.std.specs.Prelude.{ℕ, List, [], ◌∷◌, ◌++◌}
use Rattle.definitions.specs.Code.{u16}

unfoldable pub u16s : List ℕ → List ℕ
u16s [] = []
u16s (n ∷ ns) = u16 n ++ u16s ns
