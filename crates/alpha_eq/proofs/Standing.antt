-- The same thing at an equal position.
use Prim.Native.Nat.{ℕ}
use mathlib.Core.Path.{◌≡◌}
use mathlib.Core.List.{List}
use Rattle.prefix_code.specs.Scan.{Coding}
use Rattle.alpha_eq.specs.Comparing.{Standing}

abbrev pub moved : {A : Type 0} {coding : ℕ → Coding A} {names : ℕ} {code : List ℕ} {a b : ℕ} → a ≡ b → Standing coding names code b
    → Standing coding names code a
moved e s = record { value = s.value; rest = s.rest; stands = rw e s.stands }
