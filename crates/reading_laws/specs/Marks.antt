-- What the reading of a term meets, in this order: its names, its labels, and each node when its last part is read.
use Rattle.std.specs.Prelude.{ℕ, ◌+◌, Bool, true, ◌&&◌, List, [], ◌∷◌, ◌++◌, Option, None, Some}
use Rattle.definitions.specs.Name.{Name}
use Rattle.definitions.specs.Term.{Label, ProofTerm, Ident, Pair, Named, Function, Application, LetIn, Case, TypeAscription, Unit, Sorry}
use Rattle.definitions.specs.TermText.{label_names}
use Rattle.definitions.specs.TermReader.{is_limited_label}
use Rattle.reading_laws.specs.TermMachine.{Purpose, as_head, as_argument, as_body, Entry, in_bracket, second, function_body, case_head, case_first, case_second, let_head, let_body, State, reading, holding, giving}

pub data Mark : Type 0 where
  called : Name → Mark
  labelled : Label Name → Mark
  node : Mark

unfoldable pub label_marks : Option (Label Name) → List Mark
label_marks None = []
label_marks (Some l) = labelled l ∷ []

unfoldable pub marks : ProofTerm Name → List Mark
marks (Ident x) = called x ∷ node ∷ []
marks (Pair a b) = marks a ++ (marks b ++ (node ∷ []))
marks (Named f a) = marks a ++ (node ∷ [])
marks (Function x l a) = called x ∷ (label_marks l ++ (marks a ++ (node ∷ [])))
marks (Application a b) = marks a ++ (marks b ++ (node ∷ []))
marks (LetIn x y a b) = called x ∷ called y ∷ (marks a ++ (marks b ++ (node ∷ [])))
marks (Case a x b y c) = marks a ++ (called x ∷ (marks b ++ (called y ∷ (marks c ++ (node ∷ [])))))
marks (TypeAscription a l) = marks a ++ (labelled l ∷ node ∷ [])
marks Unit = node ∷ []
marks Sorry = node ∷ []

-- of what waits, the oldest entry first
unfoldable pub purpose_marks : Purpose → List Mark
purpose_marks as_head = []
purpose_marks (as_argument f) = marks f
purpose_marks (as_body f) = []

unfoldable pub entry_marks : Entry → List Mark
entry_marks (in_bracket p) = purpose_marks p
entry_marks (second p a) = purpose_marks p ++ marks a
entry_marks (function_body x l) = called x ∷ label_marks l
entry_marks case_head = []
entry_marks (case_first a x) = marks a ++ (called x ∷ [])
entry_marks (case_second a x b y) = marks a ++ (called x ∷ (marks b ++ (called y ∷ [])))
entry_marks (let_head x y) = called x ∷ called y ∷ []
entry_marks (let_body x y a) = called x ∷ called y ∷ marks a

unfoldable pub entries_marks : List Entry → List Mark
entries_marks [] = []
entries_marks (e ∷ k) = entries_marks k ++ entry_marks e

-- what was met up to a state
unfoldable pub met : State → List Mark
met (reading k s) = entries_marks k
met (holding k a s) = entries_marks k ++ marks a.shown
met (giving k a s) = entries_marks k ++ marks a.shown

-- What counts for the limits.

unfoldable pub nodes_met : List Mark → ℕ
nodes_met [] = 0
nodes_met (called x ∷ ms) = nodes_met ms
nodes_met (labelled l ∷ ms) = nodes_met ms
nodes_met (node ∷ ms) = 1 + nodes_met ms

unfoldable pub names_met : List Mark → List Name
names_met [] = []
names_met (called x ∷ ms) = x ∷ names_met ms
names_met (labelled l ∷ ms) = label_names l ++ names_met ms
names_met (node ∷ ms) = names_met ms

unfoldable pub limited_met : List Mark → Bool
limited_met [] = true
limited_met (called x ∷ ms) = limited_met ms
limited_met (labelled l ∷ ms) = is_limited_label l && limited_met ms
limited_met (node ∷ ms) = limited_met ms
