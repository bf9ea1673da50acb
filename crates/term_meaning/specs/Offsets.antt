-- Where the code of a label's proposition begins.
use Rattle.std.specs.Prelude.{ℕ, ◌+◌, List, ◌∷◌}
use Rattle.definitions.specs.Name.{Name}
use Rattle.definitions.specs.Prop.{Prop}
use Rattle.definitions.specs.Term.{Label, proposition}
use Rattle.definitions.specs.TermMemory.{label_size}

-- among labels whose code is stored from an offset on, the code of the proposition p begins at `at`
pub data BeginsAt (p : Prop Name) (at : ℕ) : ℕ → List (Label Name) → Type 0 where
  first : {ls : List (Label Name)} → BeginsAt p at at (proposition p ∷ ls)
  later : {to : ℕ} {l : Label Name} {ls : List (Label Name)} → BeginsAt p at (to + label_size l) ls → BeginsAt p at to (l ∷ ls)
