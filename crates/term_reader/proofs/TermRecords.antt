-- The records of a term that is read after these marks are those of the definitions, behind as many records and bytes of code.
use Prim.Native.Nat.{ℕ, ◌+◌, ◌-◌}
use mathlib.Core.Path.{◌≡◌, refl, ap, ◌∙◌}
use Rattle.std.specs.Prelude.{Option}
use mathlib.Core.List.{List, [], ◌∷◌, ◌++◌, append_assoc, append-nil}
use native.Mathlib.Omega.{arith}
use Rattle.definitions.specs.Name.{Name}
use Rattle.definitions.specs.Term.{Label, ProofTerm, Ident, Pair, Named, Function, Application, LetIn, Case, TypeAscription, Unit, Sorry, annotation_count}
use Rattle.definitions.specs.TermText.{nodes}
use Rattle.definitions.specs.TermMemory.{labels_size, parameter_labels, text_labels, records_of}
use Rattle.reading_laws.specs.Marks.{Mark, called, labelled, node, label_marks, marks, nodes_met}
use Rattle.reading_laws.proofs.OnTheWay.{nodes_both, nodes_label, nodes_met_lem}
use Rattle.term_stack.specs.Numbers.{labels_met, code_met, root_after, records_after}
use Rattle.term_stack.proofs.Marked.{labels_both, labels_label, code_both, code_called}

-- What was met of a term are its labels.

labels_node : (ms : List Mark) → labels_met (ms ++ (node ∷ [])) ≡ labels_met ms
unfolding labels_met
labels_node ms = labels_both ms (node ∷ []) ∙ append-nil (labels_met ms)

pub labels_met_lem : (t : ProofTerm Name) → labels_met (marks t) ≡ text_labels t
unfolding labels_met marks text_labels
labels_met_lem (Ident x) = refl
labels_met_lem (Pair a b) = rw (labels_both (marks a) (marks b ++ (node ∷ [])), labels_node (marks b), labels_met_lem a, labels_met_lem b)
labels_met_lem (Named f a) = rw (labels_node (marks a), labels_met_lem a)
labels_met_lem (Function x l a) = rw (labels_both (label_marks l) (marks a ++ (node ∷ [])), labels_node (marks a), labels_label l, labels_met_lem a)
labels_met_lem (Application a b) = rw (labels_both (marks a) (marks b ++ (node ∷ [])), labels_node (marks b), labels_met_lem a, labels_met_lem b)
labels_met_lem (LetIn x y a b) = rw (labels_both (marks a) (marks b ++ (node ∷ [])), labels_node (marks b), labels_met_lem a, labels_met_lem b)
labels_met_lem (Case a x b y c) =
    rw (
      labels_both (marks a) (called x ∷ (marks b ++ (called y ∷ (marks c ++ (node ∷ []))))),
      labels_both (marks b) (called y ∷ (marks c ++ (node ∷ []))),
      labels_node (marks c),
      labels_met_lem a,
      labels_met_lem b,
      labels_met_lem c,
    )
labels_met_lem (TypeAscription a l) = rw (labels_both (marks a) (labelled l ∷ node ∷ []), labels_met_lem a)
labels_met_lem Unit = refl
labels_met_lem Sorry = refl

pub code_met_lem : (t : ProofTerm Name) → code_met (marks t) ≡ labels_size (text_labels t)
unfolding code_met
code_met_lem t = ap labels_size (labels_met_lem t)

-- Records and code after a term, or after a name and a label.

nodes_after : (ms : List Mark) (a : ProofTerm Name) → nodes_met (ms ++ marks a) ≡ nodes_met ms + nodes a
nodes_after ms a = nodes_both ms (marks a) ∙ ap (λ n. nodes_met ms + n) (nodes_met_lem a)

code_after : (ms : List Mark) (a : ProofTerm Name) → code_met (ms ++ marks a) ≡ code_met ms + labels_size (text_labels a)
code_after ms a = code_both ms (marks a) ∙ ap (λ n. code_met ms + n) (code_met_lem a)

root_after_lem : (ms : List Mark) (a : ProofTerm Name) → root_after ms a ≡ nodes_met ms + nodes a - 1
unfolding root_after
root_after_lem ms a = ap (λ n. n - 1) (nodes_after ms a)

nodes_called : (ms : List Mark) (x : Name) → nodes_met (ms ++ (called x ∷ [])) ≡ nodes_met ms
unfolding nodes_met
nodes_called ms x = nodes_both ms (called x ∷ []) ∙ omega arith

two_nodes : (ms : List Mark) (x y : Name) → nodes_met (ms ++ (called x ∷ called y ∷ [])) ≡ nodes_met ms
unfolding nodes_met
two_nodes ms x y = nodes_both ms (called x ∷ called y ∷ []) ∙ omega arith

two_code : (ms : List Mark) (x y : Name) → code_met (ms ++ (called x ∷ called y ∷ [])) ≡ code_met ms
unfolding code_met labels_met labels_size
two_code ms x y = code_both ms (called x ∷ called y ∷ []) ∙ omega arith

nodes_parameter : (ms : List Mark) (x : Name) (l : Option (Label Name)) → nodes_met (ms ++ (called x ∷ label_marks l)) ≡ nodes_met ms
unfolding nodes_met
nodes_parameter ms x l = nodes_both ms (called x ∷ label_marks l) ∙ omega (arith, nodes_label l)

code_parameter : (ms : List Mark) (x : Name) (l : Option (Label Name))
    → code_met (ms ++ (called x ∷ label_marks l)) ≡ code_met ms + labels_size (parameter_labels l)
unfolding code_met labels_met
code_parameter ms x l = code_both ms (called x ∷ label_marks l) ∙ ap (λ ls. code_met ms + labels_size ls) (labels_label l)

module _ (number : Name → ℕ) where
  pub records_are : (ms : List Mark) (t : ProofTerm Name) → records_after number ms t ≡ records_of number (nodes_met ms) (code_met ms) t
  unfolding records_after records_of annotation_count
  records_are ms (Ident x) = refl
  records_are ms (Pair a b) =
      let v = ms ++ marks a in
      cc (records_are ms a, records_are v b, nodes_after ms a, code_after ms a, root_after_lem ms a, root_after_lem v b)
  records_are ms (Named f a) = cc (records_are ms a, root_after_lem ms a)
  records_are ms (Function x l a) =
      let v = ms ++ (called x ∷ label_marks l) in
      cc (records_are v a, nodes_parameter ms x l, code_parameter ms x l, root_after_lem v a, code_called ms x)
  records_are ms (Application a b) =
      let v = ms ++ marks a in
      cc (records_are ms a, records_are v b, nodes_after ms a, code_after ms a, root_after_lem ms a, root_after_lem v b)
  records_are ms (LetIn x y a b) =
      let u = ms ++ (called x ∷ called y ∷ []) in
      let v = ms ++ (called x ∷ called y ∷ marks a) in
      let nu : nodes_met u ≡ nodes_met ms = two_nodes ms x y in
      let cu : code_met u ≡ code_met ms = two_code ms x y in
      let uv : u ++ marks a ≡ v = append_assoc ms (called x ∷ called y ∷ []) (marks a) in
      cc (records_are u a, records_are v b, nodes_after u a, code_after u a, root_after_lem u a, root_after_lem v b)
  records_are ms (Case a x b y c) =
      let w = ms ++ marks a in
      let u = ms ++ (marks a ++ (called x ∷ [])) in
      let v = ms ++ (marks a ++ (called x ∷ (marks b ++ (called y ∷ [])))) in
      let wu : w ++ (called x ∷ []) ≡ u = append_assoc ms (marks a) (called x ∷ []) in
      let uv : (u ++ marks b) ++ (called y ∷ []) ≡ v =
      cc (
        append_assoc u (marks b) (called y ∷ []),
        append_assoc ms (marks a ++ (called x ∷ [])) (marks b ++ (called y ∷ [])),
        append_assoc (marks a) (called x ∷ []) (marks b ++ (called y ∷ [])),
      ) in
      let nu : nodes_met u ≡ nodes_met ms + nodes a = cc (nodes_called w x, nodes_after ms a) in
      let cu : code_met u ≡ code_met ms + labels_size (text_labels a) = cc (code_called w x, code_after ms a) in
      let nv : nodes_met v ≡ nodes_met ms + nodes a + nodes b = cc (nodes_called (u ++ marks b) y, nodes_after u b) in
      let cv : code_met v ≡ code_met ms + labels_size (text_labels a) + labels_size (text_labels b) = cc (code_called (u ++ marks b) y, code_after u b) in
      let cv' : code_met v ≡ code_met ms + (labels_size (text_labels a) + labels_size (text_labels b)) = omega (arith, cv) in
      cc (records_are ms a, records_are u b, records_are v c, root_after_lem ms a, root_after_lem u b, root_after_lem v c)
  records_are ms (TypeAscription a l) = cc (records_are ms a, root_after_lem ms a, code_after ms a)
  records_are ms Unit = refl
  records_are ms Sorry = refl

-- the records of a whole text
pub all_records : (number : Name → ℕ) (t : ProofTerm Name) → records_after number [] t ≡ records_of number 0 0 t
unfolding nodes_met code_met labels_met labels_size
all_records number t = records_are number [] t
