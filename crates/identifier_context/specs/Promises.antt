-- What each operation promises of its answer, of the context, and of every entry of the lent memory.
use Rattle.std.specs.Prelude.{ℕ, zero, suc, min, ◌+◌, ◌-◌, ◌<◌, ◌≡◌, Bool, not, cond, List, [], ◌∷◌, length, take, drop, set, Option, None, Some, Result, Err, Ok}
use Rattle.std.specs.List.{copy_within}
use Rattle.definitions.specs.Outcome.{Outcome, refused, accepted}
use Rattle.definitions.specs.Name.{Name}
use Rattle.definitions.specs.Tree as tree
use Rattle.definitions.specs.Text.{occurs, firsts_after}
use Rattle.definitions.specs.IdentifierContext.{IdentifierContext, len, has_name, has_identifier, get_by_name, get, remove_by_name, remove, same_name}
use Rattle.definitions.specs.IdentifierContext as definition
use Rattle.identifier_context.specs.declared.Entry.{Entry}
use Rattle.definitions.specs.declared.Identifier.{Identifier}
use Rattle.identifier_context.specs.declared.Lookup.{Lookup}
use Rattle.identifier_context.specs.declared.Lookup.TheVariants.{ByName, ByIdentifier}
use Rattle.identifier_context.specs.Memory.{entry_of, entry_at, context_of}
use Rattle.definitions.specs.declared.Refusal.{Refusal}

-- the memory after an insertion: as it was where that is refused, else with the entry stored after n entries
unfoldable pub memory_after : List Entry → ℕ → Entry → Result ℕ Refusal → List Entry
memory_after before n e (Err r) = before
memory_after before n e (Ok m) = set before n e

-- the context after it
unfoldable pub context_after : List Entry → Result ℕ Refusal → Outcome IdentifierContext
context_after after (Err r) = refused r
context_after after (Ok m) = accepted (context_of after m)

pub record Inserts (before after : List Entry) (n : ℕ) (e : Entry) (r : Result ℕ Refusal) : Type 0 where
  pub memory : after ≡ memory_after before n e r
  pub context : context_after after r ≡ definition.insert (length before) (entry_of e) (context_of before n)

-- the number of the name that is looked up
abbrev pub name_asked : Lookup → ℕ
name_asked (ByName n) = n
name_asked (ByIdentifier a) = a.name

-- the index of the latest entry that a test admits, counted from the oldest
unfoldable pub latest_at : (definition.Entry → Bool) → IdentifierContext → Option ℕ
latest_at wanted [] = None
latest_at wanted (e ∷ context) = cond (wanted e) (Some (len context)) (latest_at wanted context)

-- the entry of an answer's index
unfoldable pub entry_found : List Entry → Option ℕ → Option definition.Entry
entry_found entries None = None
entry_found entries (Some i) = Some (entry_of (entry_at entries i))

-- the memory after a removal from n entries: the later entries stand one place down, and all others are as they were
unfoldable pub closed : List Entry → ℕ → ℕ → List Entry
closed before n i = copy_within before (i + 1) n i

unfoldable pub closed_at : List Entry → ℕ → Option ℕ → List Entry
closed_at before n None = before
closed_at before n (Some i) = closed before n i

-- its answer, and what that says
unfoldable pub removed_at : List Entry → ℕ → Option ℕ → Option (Entry × ℕ)
removed_at before n None = None
removed_at before n (Some i) = Some (entry_at before i, n - 1)

unfoldable pub entry_removed : Option (Entry × ℕ) → Option definition.Entry
entry_removed None = None
entry_removed (Some (e, m)) = Some (entry_of e)

unfoldable pub length_after : ℕ → Option (Entry × ℕ) → ℕ
length_after n None = n
length_after n (Some (e, m)) = m

-- Of the name of each number:
module _ (name_of : ℕ → Name) where
  unfoldable pub identifier_of : Identifier → tree.Identifier Name
  identifier_of a = record { name = name_of a.name; unique_id = a.unique_id }

  -- what a lookup admits, what it seeks, and what a removal of that leaves
  unfoldable pub admitted : Lookup → definition.Entry → Bool
  admitted (ByName n) = has_name name_of (name_of n)
  admitted (ByIdentifier a) = has_identifier name_of (identifier_of a)

  unfoldable pub sought : Lookup → IdentifierContext → Option definition.Entry
  sought (ByName n) = get_by_name name_of (name_of n)
  sought (ByIdentifier a) = get name_of (identifier_of a)

  unfoldable pub left : Lookup → IdentifierContext → IdentifierContext
  left (ByName n) = remove_by_name name_of (name_of n)
  left (ByIdentifier a) = remove name_of (identifier_of a)

  -- a lookup answers the index of the entry that it seeks, the latest that it admits
  pub record Finds (lookup : Lookup) (entries : List Entry) (n : ℕ) (r : Option ℕ) : Type 0 where
    pub index : r ≡ (latest_at (admitted lookup) (context_of entries n))
    pub below : (i : ℕ) → r ≡ Some i → i < n
    pub entry : entry_found entries r ≡ sought lookup (context_of entries n)

  -- a removal answers that entry and the length after it, and takes the entry out
  pub record Removes (lookup : Lookup) (before after : List Entry) (n : ℕ) (r : Option (Entry × ℕ)) : Type 0 where
    pub memory : after ≡ closed_at before n (latest_at (admitted lookup) (context_of before n))
    pub answer : r ≡ removed_at before n (latest_at (admitted lookup) (context_of before n))
    pub entry : entry_removed r ≡ sought lookup (context_of before n)
    pub context : context_of after (length_after n r) ≡ left lookup (context_of before n)

  -- no later entry has the name of the entry of an index
  unfoldable pub is_visible : List Entry → ℕ → ℕ → Bool
  is_visible entries n i = not (occurs (same_name name_of) (entry_of (entry_at entries i)) (take (n - suc i) (context_of entries n)))

  -- what `getAllVisible` lists of the entries before an index: all of it, where the index is the count
  unfoldable pub visible_before : IdentifierContext → ℕ → List definition.Entry
  visible_before context i = firsts_after (same_name name_of) (take (len context - i) context) (drop (len context - i) context)

  -- an answer's entry, and what is listed after it
  unfoldable pub visible_from : List Entry → ℕ → Option ℕ → List definition.Entry
  visible_from entries n None = []
  visible_from entries n (Some i) = entry_of (entry_at entries i) ∷ visible_before (context_of entries n) i

  -- the index of the latest visible entry before one
  unfoldable pub latest_visible : List Entry → ℕ → ℕ → Option ℕ
  latest_visible entries n zero = None
  latest_visible entries n (suc i) = cond (is_visible entries n i) (Some i) (latest_visible entries n i)

  -- an answer is that index among the n entries: its entry is what `getAllVisible` lists next
  pub record Shows (entries : List Entry) (n before : ℕ) (r : Option ℕ) : Type 0 where
    pub index : r ≡ (latest_visible entries n (min before n))
    pub listed : visible_from entries n r ≡ visible_before (context_of entries n) before
