-- Where the records stand in the term's order and the term's names are below `names`, so is the datatype of each record's label.
use Prim.Native.Nat.{ℕ, zero, suc, ◌+◌, ◌≤◌, ◌<◌}
use mathlib.Core.Path.{◌≡◌}
use mathlib.Core.Logic.{by_cases}
use Rattle.std.specs.Prelude.{Option, None, Some}
use mathlib.Core.List.{List, [], ◌∷◌, ◌++◌}
use native.Mathlib.Omega.{arith}
use native.Mathlib.Decide.{dec_lt}
use Rattle.definitions.specs.Prop.{Prop}
use Rattle.definitions.specs.Term.{Label, ProofTerm, Ident, Pair, Named, Function, Application, LetIn, Case, TypeAscription, Unit, Sorry, of_label, of_labels}
use Rattle.proof_term.specs.Records.{field_at, label_of, term_at}
use Rattle.proof_term.specs.Labels.{Labelled, of_records, single, term_labels, record_label, record_labels, InOrder}
use Rattle.proof_term.specs.Readable.{LabelBelow, ParameterLabelBelow, NamesBelow}
use Rattle.proof_term.proofs.Labels.{own_label}

-- each label of a list is below `names`
data AllBelow (names : ℕ) : List (Label ℕ) → Type 0 where
  none : AllBelow names []
  one : {l : Label ℕ} {ls : List (Label ℕ)} → LabelBelow names l → AllBelow names ls → AllBelow names (l ∷ ls)

module _ {names : ℕ} where
  both : {a b : List (Label ℕ)} → AllBelow names a → AllBelow names b → AllBelow names (a ++ b)
  both none k = k
  both (one h hs) k = one h (both hs k)

  former : (a b : List (Label ℕ)) → AllBelow names (a ++ b) → AllBelow names a
  former [] b h = none
  former (l ∷ a) b (one h hs) = one h (former a b hs)

  latter : (a : List (Label ℕ)) {b : List (Label ℕ)} → AllBelow names (a ++ b) → AllBelow names b
  latter [] h = h
  latter (l ∷ a) (one h hs) = latter a hs

  the_one : {l : Label ℕ} → AllBelow names (single l) → LabelBelow names l
  the_one (one h none) = h

  parameter_below : (l : Option (Label ℕ)) → ParameterLabelBelow names l → AllBelow names (of_label single l)
  unfolding ParameterLabelBelow of_label
  parameter_below None h = none
  parameter_below (Some l) h = one h none

  -- the labels of a term whose names are
  labels_below : (t : ProofTerm ℕ) → NamesBelow names t → AllBelow names (term_labels t)
  unfolding NamesBelow of_labels
  labels_below (Ident x) h = none
  labels_below (Pair a b) h = both (labels_below a h.0) (labels_below b h.1)
  labels_below (Named f a) h = labels_below a h
  labels_below (Function x l a) h = both (labels_below a h.2) (parameter_below l h.1)
  labels_below (Application a b) h = both (labels_below a h.0) (labels_below b h.1)
  labels_below (LetIn x y a b) h = both (labels_below a h.2) (labels_below b h.3)
  labels_below (Case a x b y c) h = both (labels_below a h.0) (both (labels_below b h.2) (labels_below c h.4))
  labels_below (TypeAscription a l) h = both (labels_below a h.0) (one h.1 none)
  labels_below Unit h = none
  labels_below Sorry h = none

  -- the label of a record among those that are
  record_below : (props : ℕ → Prop ℕ) (records : List ℕ) (n : ℕ) → AllBelow names (record_labels props records n)
      → (m : ℕ) → m < n → AllBelow names (record_label props records m)
  unfolding of_records
  record_below props records zero h m l = absurd (omega arith)
  record_below props records (suc n) h m l = by_cases (dec_lt m n)
      (λ earlier. record_below props records n (former (record_labels props records n) (record_label props records n) h) m earlier)
      (λ last. let same : m ≡ n = omega arith in rw same (latter (record_labels props records n) h))

  pub datatype_below : (props : ℕ → Prop ℕ) {records : List ℕ} {n : ℕ} → InOrder records n → NamesBelow names (term_at props records n)
      → (m : ℕ) → m ≤ n → Labelled records m → field_at records m 3 ≡ 2 → field_at records m 4 < names
  unfolding LabelBelow label_of
  datatype_below props {records} {n} o below m h labelled is =
      let all : AllBelow names (record_labels props records (n + 1)) = rw (o.labels props) (labels_below _ below) in
      let own : AllBelow names (single (label_of props (field_at records m 3) (field_at records m 4))) =
      rw (own_label single props (field_at records m 0) (field_at records m 3) (field_at records m 4) labelled) at (record_below props records (n + 1) all m (omega arith)) in
      rw is at (the_one own)
