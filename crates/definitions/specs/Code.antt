-- A proposition's prefix code: how it is read, and how it is written.
-- Document 01, "The sheet", the paragraph on code, with the limits of refusal 7.
use Rattle.std.specs.Prelude.{ℕ, zero, suc, ◌+◌, ◌*◌, ◌/◌, ◌%◌, ◌<◌, ◌≤◌, cond, List, [], ◌∷◌, ◌++◌, length, get_or, ltb, leb, eqb, Option, None, Some}
use Rattle.definitions.specs.Prop.{Prop, True, False, Binary, Atom, Quantified, PropParameter, Uninstantiated, Instantiated, Connective, and, or, impl, connective_byte, Quantifier, for_all, exists, quantifier_byte}

-- what was read, and the bytes after it
pub record Read (A : Type 0) : Type 0 where
  pub value : A
  pub rest : List ℕ

-- reads from the front of the bytes, or fails
abbrev pub Reading : Type 0 → Type 0
Reading A = List ℕ → Option (Read A)

unfoldable pub yield : {A : Type 0} → A → Reading A
yield a s = Some (record { value = a; rest = s })

unfoldable pub fail : {A : Type 0} → Reading A
fail s = None

unfoldable pub followed_by : {A B : Type 0} → Option (Read A) → (A → Reading B) → Option (Read B)
followed_by None next = None
followed_by (Some r) next = next r.value r.rest

infixl 10 ◌>>=◌
unfoldable pub ◌>>=◌ : {A B : Type 0} → Reading A → (A → Reading B) → Reading B
◌>>=◌ m next s = followed_by (m s) next

unfoldable pub byte : Reading ℕ
byte [] = None
byte (b ∷ s) = Some (record { value = b; rest = s })

-- a u16, low byte first
unfoldable pub number : Reading ℕ
number = do
  low ← byte
  high ← byte
  yield (low + 256 * high)

-- what was read, if it is all
unfoldable pub whole : {A : Type 0} → Option (Read A) → Option A
whole None = None
whole (Some r) = cond (eqb (length r.rest) 0) (Some r.value) None

-- an atom has at most so many parameters
unfoldable pub parameter_limit : ℕ
parameter_limit = 8

-- Names are numbers below the count of the sheet's names.
module _ (names : ℕ) where
  unfoldable pub name_number : Reading ℕ
  name_number = do
    n ← number
    cond (ltb n names) (yield n) fail

  unfoldable pub uninstantiated : Reading (PropParameter ℕ)
  uninstantiated = do
    x ← name_number
    yield (Uninstantiated x)

  unfoldable pub instantiated : Reading (PropParameter ℕ)
  instantiated = do
    x ← name_number
    i ← number
    yield (Instantiated x i)

  -- byte 0 and a name, or byte 1, a name and an id
  unfoldable pub parameter : Reading (PropParameter ℕ)
  parameter = do
    kind ← byte
    get_or (uninstantiated ∷ instantiated ∷ []) kind fail

  unfoldable pub parameters : ℕ → Reading (List (PropParameter ℕ))
  parameters zero = yield []
  parameters (suc n) = do
    p ← parameter
    ps ← parameters n
    yield (p ∷ ps)

  -- name, a byte count of 0 to 8, then parameters
  unfoldable pub atom : Reading (Prop ℕ)
  atom = do
    a ← name_number
    n ← byte
    ps ← cond (leb n parameter_limit) (parameters n) fail
    yield (Atom a ps)

  -- followed by two propositions
  unfoldable pub binary : Reading (Prop ℕ) → Connective → Reading (Prop ℕ)
  binary part c = do
    p ← part
    q ← part
    yield (Binary c p q)

  -- object name, datatype name, body
  unfoldable pub quantified : Reading (Prop ℕ) → Quantifier → Reading (Prop ℕ)
  quantified part q = do
    x ← name_number
    t ← name_number
    p ← part
    yield (Quantified q x t p)

  -- by the byte in front: 0 ⊤, 1 ⊥, 2 ∧, 3 ∨, 4 ⊃, 5 an atom, 6 ∀, 7 ∃
  unfoldable pub by_head : Reading (Prop ℕ) → ℕ → Reading (Prop ℕ)
  by_head part head =
      get_or
      (yield True ∷ yield False ∷ binary part and ∷ binary part or ∷ binary part impl ∷ atom ∷ quantified part for_all
      ∷ quantified part exists ∷ [])
      head fail

  -- one proposition, of at most so many bytes
  unfoldable pub proposition : ℕ → Reading (Prop ℕ)
  proposition zero = fail
  proposition (suc bytes) = do
    head ← byte
    by_head (proposition bytes) head

  -- exactly one proposition over the whole length
  unfoldable pub decode : List ℕ → Option (Prop ℕ)
  decode s = whole (proposition (length s) s)

-- a u16, low byte first
unfoldable pub u16 : ℕ → List ℕ
u16 n = n % 256 ∷ n / 256 ∷ []

unfoldable pub encode_parameter : PropParameter ℕ → List ℕ
encode_parameter (Uninstantiated x) = 0 ∷ u16 x
encode_parameter (Instantiated x i) = 1 ∷ (u16 x ++ u16 i)

unfoldable pub encode_parameters : List (PropParameter ℕ) → List ℕ
encode_parameters [] = []
encode_parameters (p ∷ ps) = encode_parameter p ++ encode_parameters ps

-- the code of a proposition
unfoldable pub encode : Prop ℕ → List ℕ
encode True = 0 ∷ []
encode False = 1 ∷ []
encode (Binary c p q) = connective_byte c ∷ (encode p ++ encode q)
encode (Atom a ps) = 5 ∷ (u16 a ++ (length ps ∷ encode_parameters ps))
encode (Quantified q x t p) = quantifier_byte q ∷ (u16 x ++ (u16 t ++ encode p))

-- Which propositions have a code: names below the count of names, ids of 16 bits, at most 8 parameters.
module _ (names : ℕ) where
  unfoldable pub CodableParameter : PropParameter ℕ → Type 0
  CodableParameter (Uninstantiated x) = x < names
  CodableParameter (Instantiated x i) = (x < names) × (i < 65536)

  unfoldable pub CodableParameters : List (PropParameter ℕ) → Type 0
  CodableParameters [] = Unit {0}
  CodableParameters (p ∷ ps) = CodableParameter p × CodableParameters ps

  unfoldable pub Codable : Prop ℕ → Type 0
  Codable True = Unit {0}
  Codable False = Unit {0}
  Codable (Binary c p q) = Codable p × Codable q
  Codable (Atom a ps) = (a < names) × (length ps ≤ parameter_limit) × CodableParameters ps
  Codable (Quantified q x t p) = (x < names) × (t < names) × Codable p
