-- The highest place at which a test holds; the lowest is in the definitions.
use Rattle.std.specs.Prelude.{ℕ, zero, suc, Bool, cond, Option, None, Some}

-- the highest place below the count
unfoldable pub highest : (ℕ → Bool) → ℕ → Option ℕ
highest test zero = None
highest test (suc count) = cond (test count) (Some count) (highest test count)
