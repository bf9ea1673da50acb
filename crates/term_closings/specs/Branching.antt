-- What stands before the branch of a case.
use Rattle.std.specs.Prelude.{ℕ, ◌≤◌, ◌<◌, ◌≡◌, List, [], ◌∷◌, length, drop, Option, None, Some}
use Rattle.definitions.specs.Utf8.{utf8}
use Rattle.definitions.specs.Name.{Name}
use Rattle.definitions.specs.Code.{Reading, yield, ◌>>=◌}
use Rattle.definitions.specs.TermReader.{name, expect}
use Rattle.definitions.proofs.Readings.{given}
use Rattle.reading_laws.proofs.TermConventions.{Gives}
use Rattle.words.specs.declared.name_table.NameTable.{NameTable}
use Rattle.words.specs.Names.{add_name, number_in}
use Rattle.words.specs.Table.{table_names, Noted}
use Rattle.prop_parts.specs.declared.NameRead.{NameRead}
use Rattle.atom_reader.specs.Scope.{Crowded}
use Rattle.term_stack.specs.declared.Part.{Part}
use Rattle.term_stack.specs.declared.Entry.{Entry}
use Rattle.term_stack.specs.declared.Entry.TheVariants.{CaseHead, CaseFirst}

-- a word, a name and an arrow
unfoldable pub branch : List ℕ → Reading Name
branch what = do
  _ ← expect what
  x ← name
  _ ← expect (utf8 " => ")
  yield x

-- the branch that begins there, and its name
pub record BranchGiven (what text : List ℕ) (at : ℕ) (held after : NameTable) (r : NameRead) (x : Name) : Type 0 where
  pub within : r.end ≤ length text
  pub reads : branch what (drop at text) ≡ given x (drop r.end text)
  pub noted : Noted (x ∷ []) held after
  pub number_is : r.number ≡ number_in (add_name (table_names held) x) x
  pub from : at < r.end
  pub below : r.number < after.count

-- there is none, or one name too many
abbrev pub BranchLacks : List ℕ → List ℕ → ℕ → NameTable → Type 0
BranchLacks what text at held = Gives (branch what (drop at text)) (λ x rest. Crowded (table_names held) (x ∷ []))

-- what waits before a branch: the case for its head or, with the head and a name, for its first branch
abbrev pub branch_entry : Option (Part × ℕ) → Entry
branch_entry None = CaseHead
branch_entry (Some before) = CaseFirst before.0 before.1
