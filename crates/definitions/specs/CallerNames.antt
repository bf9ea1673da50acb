-- A caller's list of names. Document 02, tickets 2 and 13.
use Rattle.std.specs.Prelude.{ℕ, Bool, true, ◌&&◌, cond, List, [], ◌∷◌, length, leb, eqb}
use Rattle.definitions.specs.Name.{Name, is_name}
use Rattle.definitions.specs.Sheet.{name_length_limit}

-- the byte that divides a caller's names
unfoldable pub newline : ℕ
newline = 10

-- a byte in front of the first of some pieces
unfoldable pub in_front : ℕ → List Name → List Name
in_front b [] = (b ∷ []) ∷ []
in_front b (a ∷ rest) = (b ∷ a) ∷ rest

-- the pieces between newlines
unfoldable pub pieces : List ℕ → List Name
pieces [] = [] ∷ []
pieces (b ∷ s) = cond (eqb b newline) ([] ∷ pieces s) (in_front b (pieces s))

-- A caller's names are divided by newlines, and no bytes are no names: so any bytes are a list, and each ticket judges its names.
unfoldable pub names_in : List ℕ → List Name
names_in [] = []
names_in (b ∷ s) = pieces (b ∷ s)

-- a name of document 01: 1 to 32 bytes, each one that its position allows
unfoldable pub well_formed : Name → Bool
well_formed a = leb (length a) name_length_limit && is_name a

unfoldable pub all_well_formed : List Name → Bool
all_well_formed [] = true
all_well_formed (a ∷ rest) = well_formed a && all_well_formed rest
