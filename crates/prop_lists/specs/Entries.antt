-- The entries of the propositions in a row. An entry is the number of a name and a count: an atom's parameter count, and 0 for a datatype.
use Rattle.std.specs.Prelude.{ℕ, Option, None, Some}
use mathlib.Core.List.{List, map, flat_map}
use Rattle.definitions.specs.declared.TermList.{TermList}
use Rattle.definitions.specs.declared.TermList.TheVariants.{Atoms, Datatypes}
use Rattle.definitions.specs.Prop.{Prop, AtomUse, get_atoms, get_datatypes}
use Rattle.definitions.specs.Answers.{atom_numbers}
use Rattle.prefix_code.specs.declared.Shape.{Shape}
use Rattle.prop_lists.specs.declared.Entry.{Entry}
use Rattle.prop_lists.specs.Row.{propositions_from}

abbrev pub use_of : ℕ → ℕ → AtomUse ℕ
use_of name count = record { name = name; count = count }

-- datatypes as entries
abbrev pub datatype_uses : List ℕ → List (AtomUse ℕ)
datatype_uses ts = map (λ t. use_of t 0) ts

-- what a proposition adds to a list: its atoms, or its datatypes in every version
abbrev pub entries : TermList → Prop ℕ → List (AtomUse ℕ)
entries Atoms p = get_atoms p
entries (Datatypes v) p = datatype_uses (get_datatypes p)

-- what the shape of a proposition adds to a list, its parts aside
unfoldable pub own_entry : TermList → Shape → Option Entry
own_entry Atoms (Shape.Atom name count parameters) = Some (record { name = name; count = count })
own_entry Atoms Shape.True = None
own_entry Atoms Shape.False = None
own_entry Atoms (Shape.Binary connective left) = None
own_entry Atoms (Shape.Quantified quantifier object datatype body) = None
own_entry (Datatypes v) (Shape.Quantified quantifier object datatype body) = Some (record { name = datatype; count = 0 })
own_entry (Datatypes v) Shape.True = None
own_entry (Datatypes v) Shape.False = None
own_entry (Datatypes v) (Shape.Binary connective left) = None
own_entry (Datatypes v) (Shape.Atom name count parameters) = None

-- entries as numbers: an atom's name and count, a datatype's name
unfoldable pub entry_numbers : TermList → List (AtomUse ℕ) → List ℕ
entry_numbers Atoms es = atom_numbers es
entry_numbers (Datatypes v) es = map (λ e. e.name) es

module _ (names : ℕ) where
  -- the entries of the propositions that stand from `at` up to `end`
  unfoldable pub entries_from : TermList → List ℕ → ℕ → ℕ → List (AtomUse ℕ)
  entries_from list code at end = flat_map (entries list) (propositions_from names code at end)
