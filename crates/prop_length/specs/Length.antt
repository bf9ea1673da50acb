-- The length of a name, and that of a proposition's text, each below a bound.
use Rattle.std.specs.Prelude.{ℕ, ◌<◌, ◌≡◌, List, length}

-- r is the length of a name, which fits a u16
pub record NameLength (name : List ℕ) (r : ℕ) : Type 0 where
  pub is : r ≡ length name
  pub small : r < 65536

-- r is the length of a text, which fits a u32
pub record TextLength (text : List ℕ) (r : ℕ) : Type 0 where
  pub is : r ≡ length text
  pub small : r < 4294967296
