-- How a name context lies in lent memory: the oldest entry first.
use Rattle.std.specs.Prelude.{ℕ, zero, suc, ◌≤◌, ◌<◌, cond, List, [], ◌∷◌, length, get_or, eqb}
use Rattle.definitions.specs.IdentifierContext.{EntryType, proposition, datatype, IdentifierContext}
use Rattle.definitions.specs.IdentifierContext as definition
use Rattle.number.specs.Pairs.{NameWithin}
use Rattle.identifier_context.specs.declared.Entry.{Entry}

-- kind 0 is a proposition, any other a datatype
unfoldable pub type_of : ℕ → ℕ → EntryType
type_of kind number = cond (eqb kind 0) (proposition number) (datatype number)

-- what an entry's numbers say
unfoldable pub entry_of : Entry → definition.Entry
entry_of e = record { identifier = record { name = e.identifier.name; unique_id = e.identifier.unique_id }; type = type_of e.kind e.number }

-- Of the lent memory:
module _ (entries : List Entry) where
  -- the entry of an index; past the end its numbers are zeros
  unfoldable pub entry_at : ℕ → Entry
  entry_at i = get_or entries i (record { identifier = record { name = 0; unique_id = 0 }; kind = 0; number = 0 })

  -- the number of its name
  abbrev pub name_at : ℕ → ℕ
  name_at i = (entry_at i).identifier.name

  -- the context of the first n entries
  unfoldable pub context_of : ℕ → IdentifierContext
  context_of zero = []
  context_of (suc n) = entry_of (entry_at n) ∷ context_of n

-- What an operation asks of the lent memory: the first n entries are there, and their names are names.
pub record Holds (pairs text : List ℕ) (entries : List Entry) (n : ℕ) : Type 0 where
  pub present : n ≤ length entries
  pub named : (i : ℕ) → i < n → NameWithin pairs text (name_at entries i)
