-- What it is to write a text, or other elements, into lent memory: what becomes of every byte, and the position that comes next.
use Rattle.std.specs.Prelude.{ℕ, ◌+◌, ◌≤◌, ◌<◌, ◌≡◌, List, length}
use Rattle.std.proofs.lemmas.List.Edits.{sets}

-- `after` is the memory that was `before` with the text stored from `to` on, without what lies past the end, and `next` the position
-- after the text, or any past the end where the text does not fit
pub record Wrote {A : Type 0} (text before : List A) (to : ℕ) (after : List A) (next : ℕ) : Type 0 where
  pub stored : after ≡ sets before to text
  pub within : to + length text ≤ length before → next ≡ to + length text
  pub beyond : length before < to + length text → length before < next
