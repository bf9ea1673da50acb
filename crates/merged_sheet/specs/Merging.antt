-- The merged sheet after the tests of 28 and 16, and what is answered of it.
use Rattle.std.specs.Prelude.{ℕ, ◌≡◌, Bool, ◌||◌, List, Result, Ok, Err}
use Rattle.definitions.specs.Outcome.{Outcome, refused, accepted, ◌>>=◌, refuse_if}
use Rattle.definitions.specs.Sheet.{header_out_of_range}
use Rattle.definitions.specs.Answers.{is_in_room}
use Rattle.definitions.specs.Graft.{merged_sheet}
use Rattle.output.specs.Written.{filled}
use Rattle.sheet.specs.Header.{header_of}
use Rattle.sheet.specs.declared.header.Sheet.{Sheet}
use Rattle.definitions.specs.declared.Refusal.{Refusal}

-- 28, where it is known whether the levels pass their limit, and 16
unfoldable pub limited : List ℕ → List ℕ → ℕ → Bool → ℕ → Outcome (List ℕ)
limited h d k deep room = do
  _ ← refuse_if (header_out_of_range (merged_sheet h d k) || deep) 28 0
  is_in_room room (accepted (merged_sheet h d k))

-- the header of the answer, or the refusal
unfoldable pub headed : Outcome (List ℕ) → Result Sheet Refusal
headed (refused r) = Err r
headed (accepted a) = Ok (header_of a)

pub record Merging (outcome : Outcome (List ℕ)) (before after : List ℕ) (r : Result Sheet Refusal) : Type 0 where
  pub answer : r ≡ headed outcome
  pub memory : after ≡ filled outcome before
