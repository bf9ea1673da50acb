-- The name context (source document 003). Document 01, "Port order and what changes shape": "a lookup, by name or by name and id,
-- finds the latest entry, a removal takes that one out, if any, an entry past the lent room is 16".
use Rattle.std.specs.Prelude.{ℕ, Bool, cond, List, [], ◌∷◌, length, leb, Option, None, Some}
use Rattle.definitions.specs.Outcome.{Outcome, accepted, ◌>>=◌, refuse_if}
use Rattle.definitions.specs.Name.{Name, eq_name}
use Rattle.definitions.specs.Tree.{Identifier, rename_identifier}
use Rattle.definitions.specs.Comparison.{eq_identifier}
use Rattle.definitions.specs.Text.{firsts}

-- what an identifier stands for: a proposition, by its number, or an object of a datatype, by the number of the datatype's name
pub data EntryType : Type 0 where
  proposition datatype : ℕ → EntryType

pub record Entry : Type 0 where
  pub identifier : Identifier ℕ
  pub type : EntryType

-- the entries, the latest first
abbrev pub IdentifierContext : Type 0
IdentifierContext = List Entry

unfoldable pub len : IdentifierContext → ℕ
len context = length context

-- the context with one more entry, in memory with room for so many
unfoldable pub insert : ℕ → Entry → IdentifierContext → Outcome IdentifierContext
insert room e context = do
  _ ← refuse_if (leb room (len context)) 16 0
  accepted (e ∷ context)

-- Of a test of entries:
module _ (wanted : Entry → Bool) where
  -- the latest entry that it admits, if any
  unfoldable pub latest : IdentifierContext → Option Entry
  latest [] = None
  latest (e ∷ context) = cond (wanted e) (Some e) (latest context)

  -- the context with that one taken out
  unfoldable pub without_latest : IdentifierContext → IdentifierContext
  without_latest [] = []
  without_latest (e ∷ context) = cond (wanted e) context (e ∷ without_latest context)

-- Of the name of each number:
module _ (name_of : ℕ → Name) where
  -- an entry has that name, or that name and id
  unfoldable pub has_name : Name → Entry → Bool
  has_name x e = eq_name x (name_of e.identifier.name)

  unfoldable pub has_identifier : Identifier Name → Entry → Bool
  has_identifier x e = eq_identifier x (rename_identifier name_of e.identifier)

  unfoldable pub get_by_name : Name → IdentifierContext → Option Entry
  get_by_name x context = latest (has_name x) context

  unfoldable pub get : Identifier Name → IdentifierContext → Option Entry
  get x context = latest (has_identifier x) context

  -- a removal takes out what the lookup finds
  unfoldable pub remove_by_name : Name → IdentifierContext → IdentifierContext
  remove_by_name x context = without_latest (has_name x) context

  unfoldable pub remove : Identifier Name → IdentifierContext → IdentifierContext
  remove x context = without_latest (has_identifier x) context

  unfoldable pub same_name : Entry → Entry → Bool
  same_name a b = has_name (name_of a.identifier.name) b

  -- the latest entry of each name, the latest first
  unfoldable pub get_all_visible : IdentifierContext → List Entry
  get_all_visible context = firsts same_name context
