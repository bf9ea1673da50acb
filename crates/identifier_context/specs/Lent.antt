-- What the operations say of a context: its lent memory, its count of entries, and its names.
use Rattle.std.specs.Prelude.{ℕ, ◌≡◌, MatchOption, MatchResult, Option, None, Some, Result, Err, Ok}
use Rattle.definitions.specs.Name.{Name}
use Rattle.definitions.specs.Sheet.{marked}
use Rattle.definitions.specs.declared.Refusal.{Refusal}
use Rattle.number.specs.Pairs.{NameWithin}
use Rattle.identifier_context.specs.declared.Context.{Context}
use Rattle.identifier_context.specs.declared.Entry.{Entry}
use Rattle.identifier_context.specs.declared.Lookup.{Lookup}
use Rattle.identifier_context.specs.Memory.{Holds}
use Rattle.identifier_context.specs.Promises.{Inserts, Removes}

-- the name of a number
abbrev pub name_in : Context → ℕ → Name
name_in a = marked a.names.pairs.now a.names.bytes.now

-- a number is that of a name
abbrev pub IsNamed : Context → ℕ → Type 0
IsNamed a name = NameWithin a.names.pairs.now a.names.bytes.now name

-- the entries are there, and their names are names
abbrev pub IsHeld : Context → Type 0
IsHeld a = Holds a.names.pairs.now a.names.bytes.now a.entries.now a.len

-- an answer, with the count that the operation leaves
unfoldable pub with_count : ℕ → Result (Unit {0}) Refusal → Result ℕ Refusal
with_count n (Ok _) = Ok n
with_count n (Err r) = Err r

unfoldable pub taken_with_count : ℕ → Option Entry → Option (Entry × ℕ)
taken_with_count n None = None
taken_with_count n (Some e) = Some (e, n)

-- the same lent memory over the same names
pub record SamePlace (a b : Context) : Type 0 where
  pub same_names : b.names ≡ a.names
  pub same_memory : b.entries.ghost_name ≡ a.entries.ghost_name

-- an insertion, which leaves the count as it was where it is refused
pub record InsertsInto (a : Context) (e : Entry) (r : Result (Unit {0}) Refusal) (b : Context) : Type 0 where
  pub inserts : Inserts a.entries.now b.entries.now a.len e (with_count b.len r)
  pub count : MatchResult r (λ _. Unit {0}) (λ _. b.len ≡ a.len)
  pub place : SamePlace a b

-- a removal, which leaves the count as it was where there is no such entry
pub record RemovesFrom (a : Context) (lookup : Lookup) (r : Option Entry) (b : Context) : Type 0 where
  pub removes : Removes (name_in a) lookup a.entries.now b.entries.now a.len (taken_with_count b.len r)
  pub count : MatchOption r (b.len ≡ a.len) (λ _. Unit {0})
  pub place : SamePlace a b
