-- Codes over other name numbers: each name goes through a map in memory.
use Rattle.std.specs.Prelude.{ℕ, ◌≤◌, ◌≡◌, List, map, length, get_or}
use Rattle.definitions.specs.Prop.{Prop, PropParameter, rename_parameter, rename_prop}
use Rattle.definitions.specs.Code.{encode, Codable}
use Rattle.prefix_code.specs.Scan.{Coding, Stands}
use Rattle.prefix_code.specs.Head.{Head, TrueHead, FalseHead, BinaryHead, AtomHead, QuantifiedHead}

-- the number that the map has for a name
unfoldable pub mapped : List ℕ → ℕ → ℕ
mapped numbers n = get_or numbers n 0

unfoldable pub rename_parameters : (ℕ → ℕ) → List (PropParameter ℕ) → List (PropParameter ℕ)
rename_parameters f ps = map (rename_parameter f) ps

unfoldable pub rename_head : (ℕ → ℕ) → Head → Head
rename_head f TrueHead = TrueHead
rename_head f FalseHead = FalseHead
rename_head f (BinaryHead c) = BinaryHead c
rename_head f (AtomHead a ps) = AtomHead (f a) (rename_parameters f ps)
rename_head f (QuantifiedHead q x t) = QuantifiedHead q (f x) (f t)

module _ {A : Type 0} (coding : Coding A) where
  -- the code of something stands at a position
  pub record Standing (code : List ℕ) (at : ℕ) : Type 0 where
    pub value : A
    pub rest : List ℕ
    pub inside : at ≤ length code
    pub stands : Stands coding code at value rest

  -- whatever stands at the position is put over the map's numbers
  pub record Renumbers {S : Type 0} (rename : (ℕ → ℕ) → A → A) (code : List ℕ) (at : ℕ) (numbers : List ℕ)
      (puts : S → List ℕ → S → Type 0) (before after : S) : Type 0 where
    pub put : (a : A) (rest : List ℕ) → Stands coding code at a rest → puts before (coding.code (rename (mapped numbers) a)) after

-- the code is that of one proposition
pub record Whole (names : ℕ) (code : List ℕ) : Type 0 where
  pub value : Prop ℕ
  pub codable : Codable names value
  pub coded : code ≡ encode value

-- whatever proposition it is, it is put over the map's numbers
pub record PutWhole {S : Type 0} (names : ℕ) (code numbers : List ℕ) (puts : S → List ℕ → S → Type 0) (before after : S) : Type 0 where
  pub put : (p : Prop ℕ) → Codable names p → code ≡ encode p → puts before (encode (rename_prop (mapped numbers) p)) after
