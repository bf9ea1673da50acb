-- Document 02, tickets 3 and 8: version 1 is document 01's text and datatype list, version 2 has the datatype declarations first and
-- the datatypes of every label, version 3 is version 2 with its declarations sorted, and a number that is no version is refused before
-- the sheet is looked at.
use Prim.Native.Nat.{ℕ}
use mathlib.Core.Path.{◌≡◌, refl, ap, fun_ext}
use mathlib.Core.List.{List, [], ◌∷◌, ◌++◌, map}
use borrow.Author.Tests.{ne_eqb}
use Rattle.definitions.specs.declared.Style.{Style}
use Rattle.definitions.specs.declared.Version.{Version}
use Rattle.definitions.specs.declared.Version.TheVariants.{First, Second, Third}
use Rattle.definitions.specs.Utf8.{utf8}
use Rattle.definitions.specs.Outcome.{accepted, refuse, ◌>>=◌, map_outcome}
use Rattle.definitions.specs.Name.{Name, eq_name, compare_name}
use Rattle.definitions.specs.Sorting.{sort}
use Rattle.definitions.specs.Prop.{Prop, AtomUse, get_atoms, get_datatypes}
use Rattle.definitions.specs.Term.{ProofTerm, Label, proposition, datatype, of_labels, proposition_datatypes, label_datatypes, datatype_list, atom_list}
use Rattle.definitions.specs.Display.{display_term}
use Rattle.definitions.specs.Text.{firsts, eq_atom_use, compare_atom_use, arranged, atom_declaration, datatype_declaration, join_lines, atom_declarations, datatype_declarations, declarations, first_list, second_list, heading, text}
use Rattle.definitions.specs.Answers.{is_in_room, sheet_term, sheet_text, version_of, text_answer, datatypes_answer}

-- The datatype lists, over any names.
module _ {N : Type 0} where
  -- what a label adds in document 01: a ∀ label its datatype, a proposition label none
  abbrev pub of_universal : Label N → List N
  of_universal (proposition p) = []
  of_universal (datatype t) = t ∷ []

  -- every datatype of a label
  abbrev pub of_every : Label N → List N
  of_every (proposition p) = get_datatypes p
  of_every (datatype t) = t ∷ []

  first_label : (l : Label N) → label_datatypes First l ≡ of_universal l
  unfolding label_datatypes proposition_datatypes
  first_label (proposition p) = refl
  first_label (datatype t) = refl

  second_label : (l : Label N) → label_datatypes Second l ≡ of_every l
  unfolding label_datatypes proposition_datatypes
  second_label (proposition p) = refl
  second_label (datatype t) = refl

  third_label : (l : Label N) → label_datatypes Third l ≡ label_datatypes Second l
  unfolding label_datatypes proposition_datatypes
  third_label (proposition p) = refl
  third_label (datatype t) = refl

  pub first_list_lem : (t : ProofTerm N) → datatype_list First t ≡ of_labels of_universal t
  unfolding datatype_list
  first_list_lem t = ap (λ add. of_labels add t) (fun_ext first_label)

  pub second_list_lem : (t : ProofTerm N) → datatype_list Second t ≡ of_labels of_every t
  unfolding datatype_list
  second_list_lem t = ap (λ add. of_labels add t) (fun_ext second_label)

  -- version 3's list is version 2's, as it is met
  pub third_list : (t : ProofTerm N) → datatype_list Third t ≡ datatype_list Second t
  unfolding datatype_list
  third_list t = ap (λ add. of_labels add t) (fun_ext third_label)

-- the lines of declarations
abbrev atom_lines : List (AtomUse Name) → List ℕ
atom_lines uses = join_lines (map atom_declaration uses)

abbrev datatype_lines : List Name → List ℕ
datatype_lines ts = join_lines (map datatype_declaration ts)

-- The texts of a term under a goal.
module _ (t : ProofTerm Name) (goal : Prop Name) where
  -- what is declared, as it is first met: the goal's follow the term's
  abbrev atoms : List (AtomUse Name)
  atoms = firsts eq_atom_use (atom_list t ++ get_atoms goal)

  -- by what each label adds
  abbrev datatypes : (Label Name → List Name) → List Name
  datatypes add = firsts eq_name (of_labels add t ++ get_datatypes goal)

  -- document 01's text
  pub first_text : (style : Style) → text First style t goal
      ≡ (atom_lines atoms ++ (utf8 "\n" ++ (datatype_lines (datatypes of_universal) ++ utf8 "\n\n"))) ++ display_term style t
  unfolding text heading declarations first_list second_list atom_declarations datatype_declarations arranged
  first_text style = rw (first_list_lem t)

  -- the datatypes' declarations come before the atoms', and the rest is the same
  pub second_text : (style : Style) → text Second style t goal
      ≡ (datatype_lines (datatypes of_every) ++ (utf8 "\n" ++ (atom_lines atoms ++ utf8 "\n\n"))) ++ display_term style t
  unfolding text heading declarations first_list second_list atom_declarations datatype_declarations arranged
  second_text style = rw (second_list_lem t)

  -- both are sorted, and the rest is the same
  pub third_text : (style : Style) → text Third style t goal
      ≡ (datatype_lines (sort compare_name (datatypes of_every)) ++ (utf8 "\n" ++ (atom_lines (sort compare_atom_use atoms) ++ utf8 "\n\n"))) ++ display_term style t
  unfolding text heading declarations first_list second_list atom_declarations datatype_declarations arranged
  third_text style = rw (third_list t, second_list_lem t)

-- the numbers of the versions, and that there are no others
pub first_version : version_of 1 ≡ accepted First
unfolding version_of
first_version = refl

pub second_version : version_of 2 ≡ accepted Second
unfolding version_of
second_version = refl

pub third_version : version_of 3 ≡ accepted Third
unfolding version_of
third_version = refl

pub no_version : (version : ℕ) → (version ≡ 1 → ⊥) → (version ≡ 2 → ⊥) → (version ≡ 3 → ⊥) → version_of version ≡ refuse 21 0
unfolding version_of
no_version version h k m = rw (ne_eqb version 1 h, ne_eqb version 2 k, ne_eqb version 3 m)

-- Of a sheet's bytes and a number:
module _ (s : List ℕ) (version : ℕ) where
  -- the answers of a version
  module _ (v : Version) (e : version_of version ≡ accepted v) where
    pub version_text : (style : Style) (room : ℕ) → text_answer s version style room ≡ is_in_room room (sheet_text s v style)
    unfolding text_answer ◌>>=◌
    version_text style room = rw e

    pub version_datatypes : (room : ℕ) → datatypes_answer s version room ≡ is_in_room room (map_outcome (datatype_list v) (sheet_term s))
    unfolding datatypes_answer ◌>>=◌
    version_datatypes room = rw e

  -- 21 comes before every other refusal, whatever the bytes
  module _ (h : version ≡ 1 → ⊥) (k : version ≡ 2 → ⊥) (m : version ≡ 3 → ⊥) where
    pub no_text : (style : Style) (room : ℕ) → text_answer s version style room ≡ refuse 21 0
    unfolding text_answer ◌>>=◌ refuse
    no_text style room = rw (no_version version h k m)

    pub no_datatypes : (room : ℕ) → datatypes_answer s version room ≡ refuse 21 0
    unfolding datatypes_answer ◌>>=◌ refuse
    no_datatypes room = rw (no_version version h k m)
