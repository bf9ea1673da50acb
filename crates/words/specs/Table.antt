-- A table of the names met in a text: its names, and what becomes of them when one is looked up.
use Rattle.std.specs.Prelude.{ℕ, ◌*◌, ◌<◌, ◌≤◌, ◌≡◌, List, [], ◌∷◌, length, take, Result}
use Rattle.definitions.specs.Name.{Name}
use Rattle.definitions.specs.Sheet.{name_limit, pair_size, marked}
use Rattle.name_index.specs.Probed.{probed}
use Rattle.words.specs.declared.name_table.NameTable.{NameTable}
use Rattle.words.specs.Names.{add_name, added, number_in, first_names}

-- the names of a table
unfoldable pub table_names : NameTable → List Name
table_names held = first_names held.pairs held.text.now held.count

-- what probing for a name comes to
unfoldable pub searched : NameTable → Name → Result ℕ ℕ
searched held x = probed (marked held.pairs held.text.now) held.slots x

-- the names xs were looked up, and are in the table now
pub record Noted (xs : List Name) (held after : NameTable) : Type 0 where
  pub same_text : after.text.now ≡ held.text.now
  pub names : table_names after ≡ added (table_names held) xs
  pub kept : take (pair_size * held.count) after.pairs ≡ take (pair_size * held.count) held.pairs
  pub more : held.count ≤ after.count

-- with the name x there are more names than the table has room for
abbrev pub TooMany : Name → NameTable → Type 0
TooMany x held = name_limit < length (add_name (table_names held) x)

-- the name x has this number
pub record NumberOf (x : Name) (held after : NameTable) (number : ℕ) : Type 0 where
  pub noted : Noted (x ∷ []) held after
  pub number_is : number ≡ number_in (add_name (table_names held) x) x
  pub below : number < after.count
  pub marks : marked after.pairs after.text.now number ≡ x
