-- Declarations in fixed memory: a name and a count each, the oldest first. A datatype has the count 0.
use Rattle.std.specs.Prelude.{ℕ, ◌+◌, ◌*◌, ◌≤◌, ◌<◌, ◌≡◌, Bool, true, false, cond, List, [], ◌∷◌, ◌++◌, map, length, take, get_or, replicate, None}
use Rattle.definitions.specs.Name.{Name, is_equal}
use Rattle.definitions.specs.Prop.{AtomUse}
use Rattle.definitions.specs.Code.{parameter_limit}
use Rattle.definitions.specs.Text.{occurs, firsts, eq_atom_use, compare_atom_use}
use Rattle.definitions.specs.NameIndex.{slot_count}
use Rattle.vocabulary.specs.declared.Vocabulary.{Vocabulary}
use Rattle.vocabulary.specs.declared.memory.Memory.{Memory}
use Rattle.vocabulary.specs.Vocabulary.{name_in, Names}
use Rattle.prop_lists.specs.Entries.{use_of}
use Rattle.declarations.specs.declared.Declaration.{Declaration}
use Rattle.declarations.specs.declared.Table.{Table}
use Rattle.declarations.specs.Chains.{row, slot_of, Chained}

-- a use and a list of them, over the bytes of the names
abbrev pub use_over : (ℕ → Name) → AtomUse ℕ → AtomUse Name
use_over f a = record { name = f a.name; count = a.count }

abbrev pub uses_over : (ℕ → Name) → List (AtomUse ℕ) → List (AtomUse Name)
uses_over f l = map (use_over f) l

-- a declaration and a list of them, over the bytes of the names
abbrev pub use_in : (ℕ → Name) → Declaration → AtomUse Name
use_in f d = record { name = f d.name; count = d.count }

abbrev pub declared_uses : (ℕ → Name) → List Declaration → List (AtomUse Name)
declared_uses f declared = map (use_in f) declared

-- the comparison says equal of two uses; whether it does so of a use and one of the declarations (document 02, ticket 8)
abbrev pub same_use : AtomUse Name → AtomUse Name → Bool
same_use a b = is_equal (compare_atom_use a b)

abbrev pub is_declared : (ℕ → Name) → List Declaration → AtomUse ℕ → Bool
is_declared f declared u = occurs same_use (use_over f u) (declared_uses f declared)

-- the place of a use's flag: a name has nine of them, for the counts 0 to 8
abbrev pub flag_of : ℕ → ℕ → ℕ
flag_of name count = 9 * name + count

-- how many flags are set
unfoldable pub flagged : List Bool → ℕ
flagged [] = 0
flagged (a ∷ seen) = cond a 1 0 + flagged seen

module _ {N : ℕ} where
  -- the declarations so far
  abbrev pub declarations : Table N → List Declaration
  declarations m = take m.len m.rows

  -- nothing is noted
  pub record Fresh (m : Table N) : Type 0 where
    pub none : m.len ≡ 0
    pub unseen : m.seen ≡ replicate N false
    pub unchained : m.newest ≡ replicate slot_count None

  -- the declarations are the first occurrences among the uses l, by name bytes and count; a flag that is set stands for one of l
  pub record Noted (f : ℕ → Name) (l : List (AtomUse ℕ)) (m : Table N) : Type 0 where
    pub entries : declared_uses f (declarations m) ≡ firsts eq_atom_use (uses_over f l)
    pub flags : (name count : ℕ) → count ≤ parameter_limit → get_or m.seen (flag_of name count) false ≡ true
        → occurs eq_atom_use (use_over f (use_of name count)) (uses_over f l) ≡ true

-- each count fits a number of 16 bits
abbrev pub Counted : List Declaration → Type 0
Counted declared = (j : ℕ) → j < length declared → (row declared j).count < 65536

-- Over the names of a memory:
module _ (bytes : List ℕ) (v : Vocabulary) where
  -- each declaration has a name
  pub record Declared (declared : List Declaration) : Type 0 where
    pub named : (j : ℕ) → j < length declared → Names bytes v (row declared j).name

  -- every name has its flags among N
  pub record Room (N : ℕ) : Type 0 where
    pub names : (name : ℕ) → name < v.name_count → Names bytes v name
    pub small : v.name_count ≤ 65536
    pub flags : flag_of v.name_count 0 ≤ N
    pub numbered : N < 65536

  -- each declaration stands for a flag that is set, so that there is room for as many as there are flags; the declarations are chained
  pub record Held {N : ℕ} (m : Table N) : Type 0 where
    pub room : Room N
    pub within : m.len ≤ N
    pub named : (j : ℕ) → j < m.len → Names bytes v (row m.rows j).name
    pub few : m.len ≤ flagged m.seen
    pub chained : Chained (slot_of (name_in bytes v) m.rows) m.len m.newest m.older

-- the declarations have names of a memory
abbrev pub DeclaredIn : Memory → List Declaration → Type 0
DeclaredIn m = Declared m.bytes.now m.vocabulary

-- what it is to note uses, by their names' bytes: whichever uses were noted before, afterwards these are too, behind them
pub record Notes (f : ℕ → Name) {N : ℕ} (uses : List (AtomUse ℕ)) (m m' : Table N) : Type 0 where
  pub adds : (l : List (AtomUse ℕ)) → Noted f l m → Noted f (l ++ uses) m'
