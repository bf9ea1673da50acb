-- Propositions whose codes stand in a row. What is left of a proposition's code behind any of its heads is such a row.
use Rattle.std.specs.Prelude.{ℕ, zero, suc, ◌-◌, ◌≤◌, length, take, drop, Option, None, Some}
use mathlib.Core.List.{List, [], ◌∷◌}
use Rattle.definitions.specs.Prop.{Prop}
use Rattle.definitions.specs.Code.{Read, proposition}
use Rattle.prefix_code.specs.Scan.{Stands}
use Rattle.prefix_code.specs.Row.{row_coding}

module _ (names : ℕ) where
  -- from `at` up to `end` stand whole propositions in a row
  pub record Row (code : List ℕ) (at end : ℕ) : Type 0 where
    pub propositions : List (Prop ℕ)
    pub stands : Stands (row_coding names) code at propositions (drop end code)
    pub forward : at ≤ end
    pub inside : end ≤ length code

  -- the proposition that was read, and those that are read after it
  unfoldable pub and_after : Option (Read (Prop ℕ)) → (List ℕ → List (Prop ℕ)) → List (Prop ℕ)
  and_after None next = []
  and_after (Some r) next = r.value ∷ next r.rest

  -- the propositions in a row, of at most so many bytes
  unfoldable pub read_row : ℕ → List ℕ → List (Prop ℕ)
  read_row zero s = []
  read_row (suc bytes) s = and_after (proposition names (suc bytes) s) (read_row bytes)

  -- those that stand from `at` up to `end`
  unfoldable pub propositions_from : List ℕ → ℕ → ℕ → List (Prop ℕ)
  propositions_from code at end = read_row (end - at) (take (end - at) (drop at code))
