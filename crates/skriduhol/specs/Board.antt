-- What the board program is handed to print: a text at the start of the lent memory, and its length.
use Rattle.std.specs.Prelude.{ℕ, ◌≡◌, List, ◌++◌, length, drop}

pub record Prints (text before after : List ℕ) (r : ℕ) : Type 0 where
  pub size : r ≡ length text
  pub memory : after ≡ text ++ drop (length text) before
