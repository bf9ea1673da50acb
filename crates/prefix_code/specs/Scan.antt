-- Where a code stands in bytes, and where it ends.
use Rattle.std.specs.Prelude.{ℕ, ◌+◌, ◌≤◌, ◌≡◌, List, ◌++◌, length, drop, Option, MatchOption}
use Rattle.definitions.specs.Prop.{Prop, PropParameter, nesting}
use Rattle.definitions.specs.Code.{encode_parameter, encode_parameters, encode, CodableParameter, CodableParameters, Codable}

-- things that have a code: which of them count, and the code of each
pub record Coding (A : Type 0) : Type 1 where
  pub Fits : A → Type 0
  pub code : A → List ℕ

module _ {A : Type 0} (coding : Coding A) where
  -- the code of `a` stands in `l` from `at` on, with `rest` after it
  unfoldable pub Stands : List ℕ → ℕ → A → List ℕ → Type 0
  Stands l at a rest = coding.Fits a × (drop at l ≡ coding.code a ++ rest)

  -- none starts at `at`
  abbrev pub Absent : List ℕ → ℕ → Type 0
  Absent l at = (a : A) (rest : List ℕ) → Stands l at a rest → ⊥

  -- one starts at `at`
  pub record Starts (l : List ℕ) (at : ℕ) : Type 0 where
    pub value : A
    pub rest : List ℕ
    pub stands : Stands l at value rest

  -- one starts at `at`, and `end` is where it ends
  pub record Ends (l : List ℕ) (at end : ℕ) : Type 0 where
    pub starts : Starts l at
    pub found : (a : A) (rest : List ℕ) → Stands l at a rest → end ≡ at + length (coding.code a)
    pub inside : end ≤ length l

  -- where it ends, if one starts at `at`
  abbrev pub EndIfAny : List ℕ → ℕ → Option ℕ → Type 0
  EndIfAny l at result = MatchOption result (Absent l at) (Ends l at)

-- a proposition with names below `names`
abbrev pub proposition_coding : ℕ → Coding (Prop ℕ)
proposition_coding names = record { Fits = Codable names; code = encode }

abbrev pub At : ℕ → List ℕ → ℕ → Prop ℕ → List ℕ → Type 0
At names = Stands (proposition_coding names)

abbrev pub Scanned : ℕ → List ℕ → ℕ → ℕ → Type 0
Scanned names = Ends (proposition_coding names)

-- a proposition that nests at most so deep
unfoldable pub Shallow : ℕ → ℕ → Prop ℕ → Type 0
Shallow names depth p = Codable names p × (nesting p ≤ depth)

abbrev pub shallow_coding : ℕ → ℕ → Coding (Prop ℕ)
shallow_coding names depth = record { Fits = Shallow names depth; code = encode }

-- a parameter, and so many parameters
abbrev pub parameter_coding : ℕ → Coding (PropParameter ℕ)
parameter_coding names = record { Fits = CodableParameter names; code = encode_parameter }

unfoldable pub Several : ℕ → ℕ → List (PropParameter ℕ) → Type 0
Several names count ps = CodableParameters names ps × (length ps ≡ count)

abbrev pub parameters_coding : ℕ → ℕ → Coding (List (PropParameter ℕ))
parameters_coding names count = record { Fits = Several names count; code = encode_parameters }
