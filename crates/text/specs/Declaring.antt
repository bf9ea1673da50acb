-- The text of a sheet's term in two halves: the declarations, which stand in lent memory before they are written, and the term.
use Rattle.std.specs.Prelude.{ℕ, ◌<◌, ◌≡◌, List, ◌++◌, map, length}
use Rattle.definitions.specs.declared.Style.{Style}
use Rattle.definitions.specs.declared.Version.{Version}
use Rattle.definitions.specs.declared.TermList.{TermList}
use Rattle.definitions.specs.declared.TermList.TheVariants.{Atoms, Datatypes}
use Rattle.definitions.specs.Outcome.{accepted}
use Rattle.definitions.specs.Name.{Name}
use Rattle.definitions.specs.Sheet.{names, propositions, proposition_pairs, code_bytes, name_of, pair_offset}
use Rattle.definitions.specs.Prop.{Prop, AtomUse, get_atoms, get_datatypes}
use Rattle.definitions.specs.Term.{ProofTerm, atom_list, datatype_list, rename_term}
use Rattle.definitions.specs.Utf8.{utf8}
use Rattle.definitions.specs.Display.{display_term}
use Rattle.definitions.specs.Text.{firsts, eq_atom_use, compare_atom_use, arranged, first_list, second_list, heading}
use Rattle.definitions.specs.Answers.{named_term, goal_prop}
use Rattle.order_laws.proofs.Datatypes.{as_use}
use Rattle.prefix_code.specs.PropAt.{prop_at}
use Rattle.vocabulary.specs.declared.Vocabulary.{Vocabulary}
use Rattle.vocabulary.specs.Vocabulary.{name_in}
use Rattle.prop.specs.Ends.{Known}
use Rattle.proof_term.specs.Records.{term_at}
use Rattle.proof_term_display.specs.declared.Printer.{Printer}
use Rattle.proof_term_display.specs.Printer.{HasTerm, text_of}
use Rattle.proof_term_length.specs.OfMeasure.{TermMeasurable}
use Rattle.declarations.specs.declared.Declaration.{Declaration}
use Rattle.declarations.specs.Memory.{declared_uses, Declared}
use Rattle.declarations.specs.Lines.{declaration_lines}
use Rattle.sheet.specs.Header.{header_of, vocabulary_of}

-- what a list of a term and of its goal has, a datatype as a use with the count 0
abbrev pub listed_uses : TermList → ProofTerm Name → Prop Name → List (AtomUse Name)
listed_uses Atoms t goal = atom_list t ++ get_atoms goal
listed_uses (Datatypes v) t goal = map as_use (datatype_list v t ++ get_datatypes goal)

-- the lines of both lists of a version's heading, a newline between them and an empty line behind
unfoldable pub heading_lines : Version → List (AtomUse Name) → List (AtomUse Name) → List ℕ
heading_lines v first second = declaration_lines (first_list v) first ++ (utf8 "\n" ++ (declaration_lines (second_list v) second ++ utf8 "\n\n"))

-- Of a sheet's bytes:
module _ (s : List ℕ) where
  -- where its names and its code lie
  abbrev pub sheet_vocabulary : Vocabulary
  sheet_vocabulary = vocabulary_of (header_of s)

  -- the term that record n holds, over names as bytes
  abbrev pub term_of : List ℕ → ℕ → ProofTerm Name
  term_of terms n = rename_term (name_of s) (term_at (prop_at (names s) (code_bytes s)) terms n)

  -- declarations, each of a name of the sheet, are those of a list in a version's order
  pub record Declares (v : Version) (list : TermList) (declared : List Declaration) : Type 0 where
    pub table : Declared s sheet_vocabulary declared
    pub entries : (t : ProofTerm Name) → named_term s ≡ accepted t
        → declared_uses (name_in s sheet_vocabulary) declared ≡ arranged compare_atom_use v (firsts eq_atom_use (listed_uses list t (goal_prop s)))

  -- declarations are put into a version's order
  pub record Arranges (v : Version) (before after : List Declaration) : Type 0 where
    pub table : Declared s sheet_vocabulary after
    pub entries : declared_uses (name_in s sheet_vocabulary) after ≡ arranged compare_atom_use v (declared_uses (name_in s sheet_vocabulary) before)

  -- the table has the ends of each proposition of the sheet
  pub record EndsKnown (ends : List ℕ) : Type 0 where
    pub known : (i : ℕ) → i < propositions s → Known (names s) (code_bytes s) ends (pair_offset (proposition_pairs s) i)

  -- r is the length of what stands before the term, which fits 34 bits
  pub record HeadingLength (v : Version) (r : ℕ) : Type 0 where
    pub is : (t : ProofTerm Name) → named_term s ≡ accepted t → r ≡ length (heading v t (goal_prop s))
    pub small : r < 17179869184

-- The term that record n of a sheet's terms holds can be printed and measured; its text is that of the sheet's term, and fits 42 bits
pub record Prints (s terms : List ℕ) (n : ℕ) (style : Style) (p : Printer) : Type 0 where
  pub printable : HasTerm p n
  pub measurable : TermMeasurable p n
  pub shown : text_of p n ≡ display_term style (term_of s terms n)
  pub short : length (display_term style (term_of s terms n)) < 4398046511104

-- r is the length of the text of a term, which fits 42 bits
pub record TermLength (text : List ℕ) (r : ℕ) : Type 0 where
  pub is : r ≡ length text
  pub small : r < 4398046511104
