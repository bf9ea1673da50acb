-- A graft as it is handed back: a refusal with its column and whose it is.
use Rattle.std.specs.Prelude.{ℕ, ◌≡◌, List, length, Result, Ok, Err}
use Rattle.definitions.specs.declared.Whose.{Whose}
use Rattle.definitions.specs.declared.Located.{Located}
use Rattle.definitions.specs.Graft as graft
use Rattle.definitions.specs.Graft.{refused_by, merged, located_by}
use Rattle.grafting.specs.Answered.{filled_by}

-- Of the host's bytes and the donor's:
module _ (h d : List ℕ) where
  unfoldable pub grafted_of : graft.Grafted → Result ℕ (Whose × Located)
  grafted_of (refused_by w r) = Err (w, located_by h d w r)
  grafted_of (merged m) = Ok (length m)

  -- a merged sheet stands at the start of the lent memory, and a refusal leaves all as it was
  pub record GraftsOf (answer : graft.Grafted) (before after : List ℕ) (r : Result ℕ (Whose × Located)) : Type 0 where
    pub answered : r ≡ grafted_of answer
    pub memory : after ≡ filled_by answer before
