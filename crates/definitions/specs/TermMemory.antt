-- A term that was read, in lent memory: seven numbers for each node, a pair for each name, the labels' code; and the room that they
-- take. Document 02, ticket 2, with ticket 10 for the last number of a node.
use Rattle.std.specs.Prelude.{ℕ, ◌+◌, ◌-◌, ◌*◌, ◌/◌, ◌%◌, Bool, ◌||◌, cond, List, [], ◌∷◌, ◌++◌, length, ltb, Option, None, Some}
use Rattle.std.proofs.lemmas.List.Edits.{sets}
use Rattle.definitions.specs.Outcome.{Outcome, accepted, ◌>>=◌, refuse_if}
use Rattle.definitions.specs.Name.{Name, eq_name}
use Rattle.definitions.specs.Prop.{rename_prop}
use Rattle.definitions.specs.Code.{encode}
use Rattle.definitions.specs.Sheet.{pair_size}
use Rattle.definitions.specs.Term.{Label, proposition, datatype, NamedFunction, fst, snd, inl, inr, abort, ProofTerm, Ident, Pair, Named, Function, Application, LetIn, Case, TypeAscription, Unit, Sorry, annotation_count}
use Rattle.definitions.specs.Text.{firsts}
use Rattle.definitions.specs.TermText.{nodes, term_names, code_bytes}
use Rattle.definitions.specs.TermReader.{read_answer}

-- the different names of a term in the order of its text: their places in it are their numbers
unfoldable pub different_names : ProofTerm Name → List Name
different_names t = firsts eq_name (term_names t)

unfoldable pub place : List Name → Name → ℕ
place [] x = 0
place (y ∷ ys) x =
    let later = 1 + place ys x in
    cond (eq_name x y) 0 later

-- the labels of a term in the order of its text
unfoldable pub parameter_labels : Option (Label Name) → List (Label Name)
parameter_labels None = []
parameter_labels (Some l) = l ∷ []

unfoldable pub text_labels : ProofTerm Name → List (Label Name)
text_labels (Ident x) = []
text_labels (Pair a b) = text_labels a ++ text_labels b
text_labels (Named f a) = text_labels a
text_labels (Function x l a) = parameter_labels l ++ text_labels a
text_labels (Application a b) = text_labels a ++ text_labels b
text_labels (LetIn x y a b) = text_labels a ++ text_labels b
text_labels (Case a x b y c) = text_labels a ++ (text_labels b ++ text_labels c)
text_labels (TypeAscription a l) = text_labels a ++ (l ∷ [])
text_labels Unit = []
text_labels Sorry = []

-- the code of a proposition begins at an even offset, behind that of the labels before it
unfoldable pub label_size : Label Name → ℕ
label_size (proposition p) = code_bytes p + code_bytes p % 2
label_size (datatype t) = 0

unfoldable pub labels_size : List (Label Name) → ℕ
labels_size [] = 0
labels_size (l ∷ ls) = label_size l + labels_size ls

-- the kinds of records, in the Rust's order, and those of labels
unfoldable pub function_kind : NamedFunction → ℕ
function_kind fst = 2
function_kind snd = 3
function_kind inl = 7
function_kind inr = 8
function_kind abort = 10

unfoldable pub label_kind : Label Name → ℕ
label_kind (proposition p) = 1
label_kind (datatype t) = 2

unfoldable pub parameter_label_kind : Option (Label Name) → ℕ
parameter_label_kind None = 0
parameter_label_kind (Some l) = label_kind l

-- a kind, five numbers and the label count
unfoldable pub seven : ℕ → ℕ → ℕ → ℕ → ℕ → ℕ → ℕ → List ℕ
seven kind a b c d e tally = kind ∷ a ∷ b ∷ c ∷ d ∷ e ∷ tally ∷ []

-- With the numbers of the names:
module _ (number : Name → ℕ) where
  -- a proposition has half the offset of its code, a datatype the number of its name
  unfoldable pub label_number : ℕ → Label Name → ℕ
  label_number to (proposition p) = to / 2
  label_number to (datatype t) = number t

  unfoldable pub parameter_label_number : ℕ → Option (Label Name) → ℕ
  parameter_label_number to None = 0
  parameter_label_number to (Some l) = label_number to l

  -- The records of a term, parts before the whole, behind so many records and so many bytes of code.
  unfoldable pub records_of : ℕ → ℕ → ProofTerm Name → List ℕ
  records_of used to (Ident x) = seven 0 (number x) 0 0 0 0 0
  records_of used to (Pair a b) =
      let next = used + nodes a in
      records_of used to a
      ++ (records_of next (to + labels_size (text_labels a)) b ++ seven 1 (next - 1) (next + nodes b - 1) 0 0 0 (annotation_count (Pair a b)))
  records_of used to (Named f a) = records_of used to a ++ seven (function_kind f) (used + nodes a - 1) 0 0 0 0 (annotation_count a)
  records_of used to (Function x l a) =
      records_of used (to + labels_size (parameter_labels l)) a
      ++ seven 4 (used + nodes a - 1) (number x) (parameter_label_kind l) (parameter_label_number to l) 0 (annotation_count (Function x l a))
  records_of used to (Application a b) =
      let next = used + nodes a in
      records_of used to a
      ++ (records_of next (to + labels_size (text_labels a)) b ++ seven 5 (next - 1) (next + nodes b - 1) 0 0 0 (annotation_count (Application a b)))
  records_of used to (LetIn x y a b) =
      let next = used + nodes a in
      records_of used to a
      ++ (records_of next (to + labels_size (text_labels a)) b
      ++ seven 6 (next - 1) (next + nodes b - 1) (number x) (number y) 0 (annotation_count (LetIn x y a b)))
  records_of used to (Case a x b y c) =
      let next = used + nodes a in
      let last = next + nodes b in
      records_of used to a
      ++ (records_of next (to + labels_size (text_labels a)) b
      ++ (records_of last (to + (labels_size (text_labels a) + labels_size (text_labels b))) c
      ++ seven 9 (next - 1) (last - 1) (last + nodes c - 1) (number x) (number y) (annotation_count (Case a x b y c))))
  records_of used to (TypeAscription a l) =
      records_of used to a
      ++ seven 11 (used + nodes a - 1) 0 (label_kind l) (label_number (to + labels_size (text_labels a)) l) 0 (annotation_count (TypeAscription a l))
  records_of used to Unit = seven 12 0 0 0 0 0 0
  records_of used to Sorry = seven 13 0 0 0 0 0 0

  -- the memory with the code of labels stored from an offset on; what lies between two codes stays as it was
  unfoldable pub store_label : ℕ → Label Name → List ℕ → List ℕ
  store_label to (proposition p) code = sets code to (encode (rename_prop number p))
  store_label to (datatype t) code = code

  unfoldable pub store_labels : ℕ → List (Label Name) → List ℕ → List ℕ
  store_labels to [] code = code
  store_labels to (l ∷ ls) code = store_labels (to + label_size l) ls (store_label to l code)

-- The room: so many numbers of records, bytes of pairs, and bytes of code.
pub record TermRoom : Type 0 where
  pub records : ℕ
  pub names : ℕ
  pub code : ℕ

unfoldable pub record_numbers : ℕ
record_numbers = 7

unfoldable pub too_short : TermRoom → ProofTerm Name → Bool
too_short room t =
    ltb room.records (record_numbers * nodes t)
    || (ltb room.names (pair_size * length (different_names t)) || ltb room.code (labels_size (text_labels t)))

-- the answer for every list, text and room: 20, and after it 16
unfoldable pub term_answer : TermRoom → List Name → List ℕ → Outcome (ProofTerm Name)
term_answer room types text = do
  t ← read_answer types text
  _ ← refuse_if (too_short room t) 16 0
  accepted t
