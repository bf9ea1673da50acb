-- What was met adds up, and stays met.
use Prim.Native.Nat.{ℕ, ◌+◌, ◌*◌, ◌%◌, ◌≤◌}
use mathlib.Core.Path.{◌≡◌, refl, ap, ◌∙◌}
use Rattle.std.specs.Prelude.{Option, None, Some}
use mathlib.Core.List.{List, [], ◌∷◌, ◌++◌}
use native.Mathlib.Omega.{arith}
use Rattle.definitions.specs.Name.{Name}
use Rattle.definitions.specs.Term.{Label, ProofTerm, Ident, Pair, Named, Function, Application, LetIn, Case, TypeAscription, Unit, Sorry, annotation_count, is_labelled}
use Rattle.definitions.specs.TermText.{nodes}
use Rattle.definitions.specs.TermMemory.{label_size, labels_size, parameter_labels, store_label, store_labels}
use Rattle.reading_laws.specs.Marks.{Mark, called, labelled, node, label_marks}
use Rattle.reading_laws.proofs.LabelCode.{even_label}
use Rattle.words.specs.Names.{added, number_in}
use Rattle.words.proofs.Added.{met_added}
use Rattle.term_stack.specs.Numbers.{labels_met, code_met}
use Rattle.term_stack.specs.Standing.{Extends}

pub labels_both : (a b : List Mark) → labels_met (a ++ b) ≡ labels_met a ++ labels_met b
unfolding labels_met
labels_both [] b = refl
labels_both (called x ∷ a) b = labels_both a b
labels_both (labelled l ∷ a) b = ap (λ ls. l ∷ ls) (labels_both a b)
labels_both (node ∷ a) b = labels_both a b

pub labels_label : (l : Option (Label Name)) → labels_met (label_marks l) ≡ parameter_labels l
unfolding labels_met label_marks parameter_labels
labels_label None = refl
labels_label (Some l) = refl

pub sizes_both : (a b : List (Label Name)) → labels_size (a ++ b) ≡ labels_size a + labels_size b
unfolding labels_size
sizes_both [] b = omega arith
sizes_both (l ∷ a) b = let h = sizes_both a b in omega (arith, h)

pub code_both : (a b : List Mark) → code_met (a ++ b) ≡ code_met a + code_met b
unfolding code_met
code_both a b = ap labels_size (labels_both a b) ∙ sizes_both (labels_met a) (labels_met b)

-- nothing but labels has code
pub code_node : (ms : List Mark) → code_met (ms ++ (node ∷ [])) ≡ code_met ms
unfolding code_met labels_met labels_size
code_node ms = code_both ms (node ∷ []) ∙ omega arith

pub code_called : (ms : List Mark) (x : Name) → code_met (ms ++ (called x ∷ [])) ≡ code_met ms
unfolding code_met labels_met labels_size
code_called ms x = code_both ms (called x ∷ []) ∙ omega arith

-- codes have even sizes
pub even_labels : (ls : List (Label Name)) → labels_size ls % 2 ≡ 0
unfolding labels_size
even_labels [] = refl
even_labels (l ∷ ls) = let h = even_label l in let k = even_labels ls in omega (arith, h, k)

-- labels are stored one after another
pub stored_both : (number : Name → ℕ) (to : ℕ) (a b : List (Label Name)) (code : List ℕ)
    → store_labels number to (a ++ b) code ≡ store_labels number (to + labels_size a) b (store_labels number to a code)
unfolding store_labels labels_size
stored_both number to [] b code = let z : to + 0 ≡ to = omega arith in rw z
stored_both number to (l ∷ a) b code =
    let z : to + label_size l + labels_size a ≡ to + (label_size l + labels_size a) = omega arith in
    stored_both number (to + label_size l) a b (store_label number to l code) ∙ ap (λ n. store_labels number n b (store_labels number (to + label_size l) a (store_label number to l code))) z

-- numbers of more names are those of the names before
pub extends_fewer : {number : Name → ℕ} (seen xs : List Name) → Extends number (added seen xs) → Extends number seen
extends_fewer seen xs h x e = let m = met_added x seen xs e in h x m.0 ∙ m.1

pub extends_itself : (seen : List Name) → Extends (number_in seen) seen
extends_itself seen x e = refl

pub label_once : (l : Option (Label Name)) → is_labelled l ≤ 1
unfolding is_labelled
label_once None = omega arith
label_once (Some l) = omega arith

-- a term has no more labels than nodes, and one node at least
pub few_labels : (t : ProofTerm Name) → annotation_count t + 1 ≤ 2 * nodes t
unfolding annotation_count nodes
few_labels (Ident x) = omega arith
few_labels (Pair a b) = omega (arith, few_labels a, few_labels b)
few_labels (Named f a) = omega (arith, few_labels a)
few_labels (Function x l a) = omega (arith, few_labels a, label_once l)
few_labels (Application a b) = omega (arith, few_labels a, few_labels b)
few_labels (LetIn x y a b) = omega (arith, few_labels a, few_labels b)
few_labels (Case a x b y c) = omega (arith, few_labels a, few_labels b, few_labels c)
few_labels (TypeAscription a l) = omega (arith, few_labels a)
few_labels Unit = omega arith
few_labels Sorry = omega arith
