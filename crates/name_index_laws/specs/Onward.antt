-- An index of the names below n goes on with the next m.
use Rattle.std.specs.Prelude.{ℕ, zero, suc, ◌+◌, List}
use Rattle.definitions.specs.Name.{Name}
use Rattle.definitions.specs.NameIndex.{enter}

unfoldable pub enter_more : (ℕ → Name) → List ℕ → ℕ → ℕ → List ℕ
enter_more name slots n zero = slots
enter_more name slots n (suc m) = enter name (enter_more name slots n m) (n + m)
