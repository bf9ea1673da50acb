-- A term has as many labels as its label count says, and records have no more labels than there are records.
use Prim.Native.Nat.{ℕ, zero, suc, ◌+◌, ◌≤◌}
use mathlib.Core.Path.{◌≡◌, refl, ap, ◌∙◌}
use mathlib.Core.Bool.{Bool, true, false, cond}
use Rattle.std.specs.Prelude.{Option, None, Some}
use mathlib.Core.List.{List, []}
use native.Mathlib.Omega.{arith}
use lib.ListN.{length, length-append}
use Rattle.definitions.specs.Prop.{Prop}
use Rattle.definitions.specs.Term.{Label, ProofTerm, Ident, Pair, Named, Function, Application, LetIn, Case, TypeAscription, Unit, Sorry, of_label, of_labels, is_labelled, annotation_count}
use Rattle.proof_term.specs.Records.{field_at, label_of, term_at}
use Rattle.proof_term.specs.Labels.{has_label, of_own_label, of_records, single, term_labels, record_label, record_labels, InOrder}

-- the label count is the number of labels
count_label : {N : Type 0} (l : Option (Label N)) → length (of_label single l) ≡ is_labelled l
unfolding of_label is_labelled
count_label None = refl
count_label (Some l) = refl

pub count_labels : {N : Type 0} (t : ProofTerm N) → length (term_labels t) ≡ annotation_count t
unfolding of_labels annotation_count
count_labels (Ident x) = refl
count_labels (Pair a b) = rw length-append (omega (arith, count_labels a, count_labels b))
count_labels (Named f a) = count_labels a
count_labels (Function x l a) = rw length-append (omega (arith, count_labels a, count_label l))
count_labels (Application a b) = rw length-append (omega (arith, count_labels a, count_labels b))
count_labels (LetIn x y a b) = rw length-append (omega (arith, count_labels a, count_labels b))
count_labels (Case a x b y c) = rw (length-append, length-append) (omega (arith, count_labels a, count_labels b, count_labels c))
count_labels (TypeAscription a l) = rw length-append (omega (arith, count_labels a))
count_labels Unit = refl
count_labels Sorry = refl

module _ (props : ℕ → Prop ℕ) (records : List ℕ) where
  -- a record has at most one label
  count_record : (m : ℕ) → length (record_label props records m) ≤ 1
  unfolding of_own_label
  count_record m = go (has_label (field_at records m 0) (field_at records m 3))
    where
      go : (b : Bool) → length (cond b (single (label_of props (field_at records m 3) (field_at records m 4))) []) ≤ 1
      go true = omega arith
      go false = omega arith

  pub few_labels : (n : ℕ) → length (record_labels props records n) ≤ n
  unfolding of_records
  few_labels zero = omega arith
  few_labels (suc n) = rw length-append (omega (arith, few_labels n, count_record n))

  -- where the records stand in the term's order, their labels are counted
  pub count_in_order : {n : ℕ} → InOrder records n → length (record_labels props records (n + 1)) ≡ annotation_count (term_at props records n)
  count_in_order {n} o = ap length (o.labels props) ∙ count_labels (term_at props records n)
