-- The lines of the declarations.
use Rattle.std.specs.Prelude.{ℕ, cond, List, [], ◌++◌, map, eqb}
use Rattle.definitions.specs.declared.TermList.{TermList}
use Rattle.definitions.specs.declared.TermList.TheVariants.{Atoms, Datatypes}
use Rattle.definitions.specs.Name.{Name}
use Rattle.definitions.specs.Prop.{AtomUse}
use Rattle.definitions.specs.Utf8.{utf8}
use Rattle.definitions.specs.Text.{decimal, atom_declaration, datatype_declaration, join_lines}

-- the count of an atom that has parameters
unfoldable pub count_text : ℕ → List ℕ
count_text count = cond (eqb count 0) [] (utf8 "(" ++ (decimal count ++ utf8 ")"))

-- the newline before each line but the first
unfoldable pub break_before : ℕ → List ℕ
break_before line = cond (eqb line 0) [] (utf8 "\n")

-- the line of an entry of a list
unfoldable pub declaration : TermList → AtomUse Name → List ℕ
declaration Atoms a = atom_declaration a
declaration (Datatypes v) a = datatype_declaration a.name

unfoldable pub declaration_lines : TermList → List (AtomUse Name) → List ℕ
declaration_lines list uses = join_lines (map (declaration list) uses)
