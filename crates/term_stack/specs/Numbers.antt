-- The numbers of the records and the stack of entries at each state of the machine, as functions of what was met.
use Rattle.std.specs.Prelude.{ℕ, ◌+◌, ◌-◌, ◌/◌, List, [], ◌∷◌, ◌++◌, Option, None, Some}
use Rattle.definitions.specs.Name.{Name}
use Rattle.definitions.specs.Term.{Label, proposition, datatype, ProofTerm, Ident, Pair, Named, Function, Application, LetIn, Case, TypeAscription, Unit, Sorry, annotation_count, is_labelled}
use Rattle.definitions.specs.TermText.{term_nesting}
use Rattle.definitions.specs.TermMemory.{labels_size, function_kind, label_kind, parameter_label_kind, seven, label_number, parameter_label_number}
use Rattle.reading_laws.specs.TermMachine.{Purpose, as_head, as_argument, as_body, Entry, in_bracket, second, function_body, case_head, case_first, case_second, let_head, let_body}
use Rattle.words.specs.Starts.{as_named}
use Rattle.proof_term.specs.declared.nodes.Label as numbered
use Rattle.proof_term.specs.declared.nodes.Label.TheVariants.{Proposition, Datatype}
use Rattle.term_stack.specs.declared.Part.{Part}
use Rattle.term_stack.specs.declared.Purpose as reader
use Rattle.term_stack.specs.declared.Purpose.TheVariants.{Head, Argument, Body}
use Rattle.term_stack.specs.declared.Entry as entries
use Rattle.term_stack.specs.declared.Entry.TheVariants.{Bracket, Second, FunctionBody, CaseHead, CaseFirst, CaseSecond, LetHead, LetBody}
use Rattle.reading_laws.specs.Marks.{Mark, called, labelled, node, label_marks, marks, purpose_marks, entries_marks, nodes_met}

-- the labels met, and the bytes of their code
unfoldable pub labels_met : List Mark → List (Label Name)
labels_met [] = []
labels_met (called x ∷ ms) = labels_met ms
labels_met (labelled l ∷ ms) = l ∷ labels_met ms
labels_met (node ∷ ms) = labels_met ms

unfoldable pub code_met : List Mark → ℕ
code_met ms = labels_size (labels_met ms)

-- the number of a term's own record, read after these marks
unfoldable pub root_after : List Mark → ProofTerm Name → ℕ
root_after ms a = nodes_met (ms ++ marks a) - 1

-- a term that was read after these marks and waits for another
unfoldable pub part_after : List Mark → ProofTerm Name → Part
part_after ms a = record { root = root_after ms a; nest = term_nesting a; tally = annotation_count a }

unfoldable pub purpose_after : List Mark → Purpose → reader.Purpose
purpose_after ms as_head = Head
purpose_after ms (as_argument f) = Argument (part_after ms f)
purpose_after ms (as_body f) = Body (as_named f)

-- With the numbers of the names:
module _ (number : Name → ℕ) where
  -- a label whose code begins at an offset: a proposition has half of it, and a datatype the number of its name
  unfoldable pub numbered_label : ℕ → Label Name → numbered.Label
  numbered_label to (proposition p) = Proposition (to / 2)
  numbered_label to (datatype t) = Datatype (number t)

  unfoldable pub numbered_parameter : ℕ → Option (Label Name) → Option numbered.Label
  numbered_parameter to None = None
  numbered_parameter to (Some l) = Some (numbered_label to l)

  -- the records of a term, read after these marks
  unfoldable pub records_after : List Mark → ProofTerm Name → List ℕ
  records_after ms (Ident x) = seven 0 (number x) 0 0 0 0 0
  records_after ms (Pair a b) =
      records_after ms a
      ++ (records_after (ms ++ marks a) b ++ seven 1 (root_after ms a) (root_after (ms ++ marks a) b) 0 0 0 (annotation_count a + annotation_count b))
  records_after ms (Named f a) = records_after ms a ++ seven (function_kind f) (root_after ms a) 0 0 0 0 (annotation_count a)
  records_after ms (Function x l a) =
      let v = ms ++ (called x ∷ label_marks l) in
      records_after v a
      ++ seven 4 (root_after v a) (number x) (parameter_label_kind l) (parameter_label_number number (code_met (ms ++ (called x ∷ []))) l) 0
      (is_labelled l + annotation_count a)
  records_after ms (Application a b) =
      records_after ms a
      ++ (records_after (ms ++ marks a) b ++ seven 5 (root_after ms a) (root_after (ms ++ marks a) b) 0 0 0 (annotation_count a + annotation_count b))
  records_after ms (LetIn x y a b) =
      let u = ms ++ (called x ∷ called y ∷ []) in
      let v = ms ++ (called x ∷ called y ∷ marks a) in
      records_after u a
      ++ (records_after v b ++ seven 6 (root_after u a) (root_after v b) (number x) (number y) 0 (annotation_count a + annotation_count b))
  records_after ms (Case a x b y c) =
      let u = ms ++ (marks a ++ (called x ∷ [])) in
      let v = ms ++ (marks a ++ (called x ∷ (marks b ++ (called y ∷ [])))) in
      records_after ms a
      ++ (records_after u b
      ++ (records_after v c
      ++ seven 9 (root_after ms a) (root_after u b) (root_after v c) (number x) (number y) (annotation_count a + annotation_count b + annotation_count c)))
  records_after ms (TypeAscription a l) =
      records_after ms a ++ seven 11 (root_after ms a) 0 (label_kind l) (label_number number (code_met (ms ++ marks a)) l) 0 (1 + annotation_count a)
  records_after ms Unit = seven 12 0 0 0 0 0 0
  records_after ms Sorry = seven 13 0 0 0 0 0 0

  -- an entry, put on the stack after these marks
  unfoldable pub entry_after : List Mark → Entry → entries.Entry
  entry_after ms (in_bracket p) = Bracket (purpose_after ms p)
  entry_after ms (second p a) = Second (purpose_after ms p) (part_after (ms ++ purpose_marks p) a)
  entry_after ms (function_body x l) = FunctionBody (number x) (numbered_parameter (code_met (ms ++ (called x ∷ []))) l)
  entry_after ms case_head = CaseHead
  entry_after ms (case_first a x) = CaseFirst (part_after ms a) (number x)
  entry_after ms (case_second a x b y) = CaseSecond (part_after ms a) (number x) (part_after (ms ++ (marks a ++ (called x ∷ []))) b) (number y)
  entry_after ms (let_head x y) = LetHead (number x) (number y)
  entry_after ms (let_body x y a) = LetBody (number x) (number y) (part_after (ms ++ (called x ∷ called y ∷ [])) a)

  unfoldable pub purpose_records : List Mark → Purpose → List ℕ
  purpose_records ms as_head = []
  purpose_records ms (as_argument f) = records_after ms f
  purpose_records ms (as_body f) = []

  unfoldable pub entry_records : List Mark → Entry → List ℕ
  entry_records ms (in_bracket p) = purpose_records ms p
  entry_records ms (second p a) = purpose_records ms p ++ records_after (ms ++ purpose_marks p) a
  entry_records ms (function_body x l) = []
  entry_records ms case_head = []
  entry_records ms (case_first a x) = records_after ms a
  entry_records ms (case_second a x b y) = records_after ms a ++ records_after (ms ++ (marks a ++ (called x ∷ []))) b
  entry_records ms (let_head x y) = []
  entry_records ms (let_body x y a) = records_after (ms ++ (called x ∷ called y ∷ [])) a

  unfoldable pub stack_of : List Entry → List entries.Entry
  stack_of [] = []
  stack_of (e ∷ k) = stack_of k ++ (entry_after (entries_marks k) e ∷ [])

  unfoldable pub stack_records : List Entry → List ℕ
  stack_records [] = []
  stack_records (e ∷ k) = stack_records k ++ entry_records (entries_marks k) e

  -- the records with a term after the entries
  unfoldable pub term_records : List Entry → ProofTerm Name → List ℕ
  term_records k a = stack_records k ++ records_after (entries_marks k) a
