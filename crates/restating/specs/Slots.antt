-- What becomes of the lent slots: the index of the new sheet's names, or what they were where there is none.
use Rattle.std.specs.Prelude.{ℕ, List}
use Rattle.definitions.specs.Outcome.{Outcome, refused, accepted}
use Rattle.definitions.specs.NameIndex.{index_of}

unfoldable pub slots_after : Outcome (List ℕ) → List ℕ → List ℕ
slots_after (refused r) before = before
slots_after (accepted a) before = index_of a
