-- The head of a proposition's code: all that stands before its parts, which are propositions themselves.
use Rattle.std.specs.Prelude.{ℕ, ◌≤◌, ◌<◌, List, [], ◌∷◌, ◌++◌, length, get_or}
use Rattle.definitions.specs.Prop.{PropParameter, Connective, connective_byte, Quantifier, quantifier_byte}
use Rattle.definitions.specs.Code.{parameter_limit, u16, encode_parameters, CodableParameters}
use Rattle.prefix_code.specs.Scan.{Coding}

pub data Head : Type 0 where
  TrueHead FalseHead : Head
  BinaryHead : Connective → Head
  -- a name and its parameters
  AtomHead : ℕ → List (PropParameter ℕ) → Head
  -- object name, datatype name
  QuantifiedHead : Quantifier → ℕ → ℕ → Head

unfoldable pub encode_head : Head → List ℕ
encode_head TrueHead = 0 ∷ []
encode_head FalseHead = 1 ∷ []
encode_head (BinaryHead c) = connective_byte c ∷ []
encode_head (AtomHead a ps) = 5 ∷ (u16 a ++ (length ps ∷ encode_parameters ps))
encode_head (QuantifiedHead q x t) = quantifier_byte q ∷ (u16 x ++ u16 t)

unfoldable pub CodableHead : ℕ → Head → Type 0
CodableHead names TrueHead = Unit {0}
CodableHead names FalseHead = Unit {0}
CodableHead names (BinaryHead c) = Unit {0}
CodableHead names (AtomHead a ps) = (a < names) × (length ps ≤ parameter_limit) × CodableParameters names ps
CodableHead names (QuantifiedHead q x t) = (x < names) × (t < names)

abbrev pub head_coding : ℕ → Coding Head
head_coding names = record { Fits = CodableHead names; code = encode_head }

-- how many parts follow a head byte
unfoldable pub parts_after : ℕ → ℕ
parts_after head = get_or (0 ∷ 0 ∷ 2 ∷ 2 ∷ 2 ∷ 0 ∷ 1 ∷ 1 ∷ []) head 0
