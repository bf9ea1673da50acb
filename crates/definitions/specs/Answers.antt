-- The answer to each question about a sheet, for every sequence of bytes and every room; the board's output.
-- Document 01, "Refusals in checking order" and "Text"; document 02, tickets 3 and 8, for the versions of the handout.
use Rattle.std.specs.Prelude.{ℕ, Bool, ◌||◌, ◌&&◌, cond, List, [], ◌∷◌, ◌++◌, length, ltb, leb, eqb}
use Rattle.definitions.specs.declared.Refusal.{Refusal}
use Rattle.definitions.specs.declared.Located.{Located}
use Rattle.definitions.specs.declared.Style.{Style}
use Rattle.definitions.specs.declared.Style.TheVariants.{Plain}
use Rattle.definitions.specs.declared.Version.{Version}
use Rattle.definitions.specs.declared.Version.TheVariants.{First, Second, Third}
use Rattle.definitions.specs.Outcome.{Outcome, refused, accepted, refuse, ◌>>=◌, map_outcome, refuse_if}
use Rattle.definitions.specs.Utf8.{utf8}
use Rattle.definitions.specs.Name.{Name}
use Rattle.definitions.specs.Prop.{Prop, AtomUse, rename_prop}
use Rattle.definitions.specs.Sheet.{column, name_of, goal, steps, step_records}
use Rattle.definitions.specs.Tree.{prop_of, conclusion_of, ProofTreeConclusion, rename_conclusion}
use Rattle.definitions.specs.Admission.{admitted}
use Rattle.definitions.specs.Term.{ProofTerm, rename_term, annotation_count, atom_list, datatype_list}
use Rattle.definitions.specs.Export.{export, checking}
use Rattle.definitions.specs.Text.{text, decimal}
use Rattle.definitions.specs.Comparison.{conclusion_alpha_eq}

-- an atom list in numbers: name number and parameter count for each atom
unfoldable pub atom_numbers : List (AtomUse ℕ) → List ℕ
atom_numbers [] = []
atom_numbers (a ∷ uses) = a.name ∷ a.count ∷ atom_numbers uses

-- 16: the lent output is shorter than the answer, judged last
unfoldable pub is_in_room : ℕ → Outcome (List ℕ) → Outcome (List ℕ)
is_in_room room outcome = do
  a ← outcome
  _ ← refuse_if (ltb room (length a)) 16 0
  accepted a

-- the board program lends so many bytes
unfoldable pub board_room : ℕ
board_room = 65536

-- the place of refusals 9 to 15 is a step
unfoldable pub names_step : Refusal → Bool
names_step r = leb 9 r.number && leb r.number 15

-- the column that a refusal hands back: that of the step it names, as its bytes stand, else 0
unfoldable pub column_of : List ℕ → Refusal → ℕ
column_of s r = cond (names_step r) (column (step_records s) r.place) 0

unfoldable pub located : List ℕ → Refusal → Located
located s r = record { refusal = r; column = column_of s r }

-- ` column K` for a refusal that names a step
unfoldable pub column_words : Located → List ℕ
column_words l = cond (names_step l.refusal) (utf8 " column " ++ decimal l.column) []

-- `refused R at P`, ` column K` for a refusal that names a step, and a newline
unfoldable pub refusal_line : Located → List ℕ
refusal_line l =
    utf8 "refused " ++ (decimal l.refusal.number ++ (utf8 " at " ++ (decimal l.refusal.place ++ (column_words l ++ utf8 "\n"))))

-- what is printed of a sheet's answer
unfoldable pub printed : List ℕ → Outcome (List ℕ) → List ℕ
printed s (refused r) = refusal_line (located s r)
printed s (accepted a) = a

-- the version of the handout that a number asks for; 21: it is outside 1 to 3
unfoldable pub version_of : ℕ → Outcome Version
version_of number =
    cond (eqb number 1) (accepted First)
    (cond (eqb number 2) (accepted Second)
    (cond (eqb number 3) (accepted Third) (refuse 21 0)))

-- Of a sheet's bytes:
module _ (s : List ℕ) where
  -- the sheet's term over its names' numbers, or the first of refusals 1 to 15: the root's place is checking
  unfoldable pub sheet_term : Outcome (ProofTerm ℕ)
  sheet_term = do
    root ← admitted s
    export root checking

  -- the same term over names as bytes
  unfoldable pub named_term : Outcome (ProofTerm Name)
  named_term = map_outcome (rename_term (name_of s)) sheet_term

  unfoldable pub goal_prop : Prop Name
  goal_prop = rename_prop (name_of s) (prop_of s (goal s))

  -- the text, given room
  unfoldable pub sheet_text : Version → Style → Outcome (List ℕ)
  sheet_text v style = map_outcome (λ t. text v style t goal_prop) named_term

  -- the plain text and the strict text of a version in a room of bytes; 21 is tried before 1
  unfoldable pub text_answer : ℕ → Style → ℕ → Outcome (List ℕ)
  text_answer version style room = do
    v ← version_of version
    is_in_room room (sheet_text v style)

  -- the lists, without the goal's entries, in a room of numbers; that of the atoms has no version
  unfoldable pub atoms_answer : ℕ → Outcome (List ℕ)
  atoms_answer room = is_in_room room (map_outcome (λ t. atom_numbers (atom_list t)) sheet_term)

  unfoldable pub datatypes_answer : ℕ → ℕ → Outcome (List ℕ)
  datatypes_answer version room = do
    v ← version_of version
    is_in_room room (map_outcome (datatype_list v) sheet_term)

  -- the label count
  unfoldable pub label_count : Outcome ℕ
  label_count = map_outcome annotation_count sheet_term

  unfoldable pub named_conclusion : ℕ → ProofTreeConclusion Name
  named_conclusion k = rename_conclusion (name_of s) (conclusion_of s k)

  -- the comparison of two steps' conclusions; 17: it names a step not below S
  unfoldable pub comparison : ℕ → ℕ → Outcome Bool
  comparison i j = do
    _ ← admitted s
    _ ← refuse_if (leb (steps s) i || leb (steps s) j) 17 0
    conclusion_alpha_eq (named_conclusion i) (named_conclusion j)

  -- what the board program prints: the plain text of version 1
  unfoldable pub board_output : List ℕ
  board_output = printed s (text_answer 1 Plain board_room)
