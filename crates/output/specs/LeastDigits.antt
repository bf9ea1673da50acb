-- How many decimal digits hold a number: at least one, and the least of those.
use Rattle.std.specs.Prelude.{ℕ, ◌^◌, ◌≤◌, ◌<◌}

pub record LeastDigits (n count : ℕ) : Type 0 where
  pub some : 1 ≤ count
  pub holds : n < 10 ^ count
  pub least : (k : ℕ) → 1 ≤ k → n < 10 ^ k → count ≤ k
