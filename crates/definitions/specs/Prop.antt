-- Propositions (source document 002), over the names `N`: numbers of a sheet, or bytes.
-- Document 01, "The sheet", the paragraph on code.
use Rattle.std.specs.Prelude.{ℕ, ◌+◌, max, Bool, true, false, List, [], ◌∷◌, ◌++◌, map, length, eqb, Option, None, Some}

pub data PropParameter (N : Type 0) : Type 0 where
  Uninstantiated : N → PropParameter N
  -- a name and an id
  Instantiated : N → ℕ → PropParameter N

-- ∧, ∨, ⊃
pub data Connective : Type 0 where
  and or impl : Connective

-- ∀, ∃
pub data Quantifier : Type 0 where
  for_all exists : Quantifier

pub data Prop (N : Type 0) : Type 0 where
  True False : Prop N
  Binary : Connective → Prop N → Prop N → Prop N
  -- a name and its parameters
  Atom : N → List (PropParameter N) → Prop N
  -- object name, datatype name, body
  Quantified : Quantifier → N → N → Prop N → Prop N

-- the Rust's names of the binary and the quantified propositions
module _ {N : Type 0} where
  abbrev pub And : Prop N → Prop N → Prop N
  And p q = Binary and p q

  abbrev pub Or : Prop N → Prop N → Prop N
  Or p q = Binary or p q

  abbrev pub Impl : Prop N → Prop N → Prop N
  Impl p q = Binary impl p q

  abbrev pub ForAll : N → N → Prop N → Prop N
  ForAll x t p = Quantified for_all x t p

  abbrev pub Exists : N → N → Prop N → Prop N
  Exists x t p = Quantified exists x t p

-- an entry of the atom list: a name and its parameter count
pub record AtomUse (N : Type 0) : Type 0 where
  pub name : N
  pub count : ℕ

module _ {N : Type 0} where
  unfoldable pub parameter_name : PropParameter N → N
  parameter_name (Uninstantiated x) = x
  parameter_name (Instantiated x i) = x

  -- document 01's nesting: a leaf has 1
  unfoldable pub nesting : Prop N → ℕ
  nesting True = 1
  nesting False = 1
  nesting (Binary c p q) = 1 + max (nesting p) (nesting q)
  nesting (Atom a ps) = 1
  nesting (Quantified q x t p) = 1 + nesting p

  -- the atoms, left to right with repeats
  unfoldable pub get_atoms : Prop N → List (AtomUse N)
  get_atoms True = []
  get_atoms False = []
  get_atoms (Binary c p q) = get_atoms p ++ get_atoms q
  get_atoms (Atom a ps) = record { name = a; count = length ps } ∷ []
  get_atoms (Quantified q x t p) = get_atoms p

  -- the datatypes, left to right with repeats
  unfoldable pub get_datatypes : Prop N → List N
  get_datatypes True = []
  get_datatypes False = []
  get_datatypes (Binary c p q) = get_datatypes p ++ get_datatypes q
  get_datatypes (Atom a ps) = []
  get_datatypes (Quantified q x t p) = t ∷ get_datatypes p

-- What a proposition is when it is taken apart, as `let .. else` does: the parts if it has the form, else nothing.
pub record Sides (N : Type 0) : Type 0 where
  pub connective : Connective
  pub left : Prop N
  pub right : Prop N

pub record Applied (N : Type 0) : Type 0 where
  pub atom : N
  pub parameters : List (PropParameter N)

pub record Scope (N : Type 0) : Type 0 where
  pub quantifier : Quantifier
  pub object : N
  pub datatype : N
  pub body : Prop N

module _ {N : Type 0} where
  unfoldable pub is_true : Prop N → Bool
  is_true True = true
  is_true False = false
  is_true (Binary c p q) = false
  is_true (Atom a ps) = false
  is_true (Quantified q x t p) = false

  unfoldable pub is_false : Prop N → Bool
  is_false True = false
  is_false False = true
  is_false (Binary c p q) = false
  is_false (Atom a ps) = false
  is_false (Quantified q x t p) = false

  unfoldable pub as_binary : Prop N → Option (Sides N)
  as_binary True = None
  as_binary False = None
  as_binary (Binary c p q) = Some (record { connective = c; left = p; right = q })
  as_binary (Atom a ps) = None
  as_binary (Quantified q x t p) = None

  unfoldable pub as_atom : Prop N → Option (Applied N)
  as_atom True = None
  as_atom False = None
  as_atom (Binary c p q) = None
  as_atom (Atom a ps) = Some (record { atom = a; parameters = ps })
  as_atom (Quantified q x t p) = None

  unfoldable pub as_quantified : Prop N → Option (Scope N)
  as_quantified True = None
  as_quantified False = None
  as_quantified (Binary c p q) = None
  as_quantified (Atom a ps) = None
  as_quantified (Quantified q x t p) = Some (record { quantifier = q; object = x; datatype = t; body = p })

-- the byte that stands for it in the code
unfoldable pub connective_byte : Connective → ℕ
connective_byte and = 2
connective_byte or = 3
connective_byte impl = 4

unfoldable pub quantifier_byte : Quantifier → ℕ
quantifier_byte for_all = 6
quantifier_byte exists = 7

unfoldable pub eq_connective : Connective → Connective → Bool
eq_connective c d = eqb (connective_byte c) (connective_byte d)

unfoldable pub eq_quantifier : Quantifier → Quantifier → Bool
eq_quantifier c d = eqb (quantifier_byte c) (quantifier_byte d)

-- The same proposition over other names.
module _ {N M : Type 0} (f : N → M) where
  unfoldable pub rename_parameter : PropParameter N → PropParameter M
  rename_parameter (Uninstantiated x) = Uninstantiated (f x)
  rename_parameter (Instantiated x i) = Instantiated (f x) i

  unfoldable pub rename_prop : Prop N → Prop M
  rename_prop True = True
  rename_prop False = False
  rename_prop (Binary c p q) = Binary c (rename_prop p) (rename_prop q)
  rename_prop (Atom a ps) = Atom (f a) (map rename_parameter ps)
  rename_prop (Quantified q x t p) = Quantified q (f x) (f t) (rename_prop p)
