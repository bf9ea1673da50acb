-- Propositions whose codes stand in a row.
use Rattle.std.specs.Prelude.{ℕ}
use mathlib.Core.List.{List, [], ◌∷◌, flat_map}
use Rattle.definitions.specs.Prop.{Prop}
use Rattle.definitions.specs.Code.{encode, Codable}
use Rattle.prefix_code.specs.Scan.{Coding}

abbrev pub encode_row : List (Prop ℕ) → List ℕ
encode_row = flat_map encode

module _ (names : ℕ) where
  unfoldable pub CodableRow : List (Prop ℕ) → Type 0
  CodableRow [] = Unit {0}
  CodableRow (p ∷ ps) = Codable names p × CodableRow ps

  abbrev pub row_coding : Coding (List (Prop ℕ))
  row_coding = record { Fits = CodableRow; code = encode_row }
