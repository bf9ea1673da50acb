-- The proposition whose code begins at a position.
use Rattle.std.specs.Prelude.{ℕ, List, length, drop, Option, None, Some}
use Rattle.definitions.specs.Prop.{Prop, False}
use Rattle.definitions.specs.Code.{Read, proposition}
use Rattle.prefix_code.specs.Scan.{At}

-- what was read, and ⊥ where nothing was
unfoldable pub value_read : Option (Read (Prop ℕ)) → Prop ℕ
value_read None = False
value_read (Some r) = r.value

-- the proposition whose code begins at `at`, and ⊥ where none does
unfoldable pub prop_at : ℕ → List ℕ → ℕ → Prop ℕ
prop_at names code at = value_read (proposition names (length code) (drop at code))

-- one does begin there
pub record Present (names : ℕ) (code : List ℕ) (at : ℕ) : Type 0 where
  pub rest : List ℕ
  pub stands : At names code at (prop_at names code at) rest
