-- A record's labels are its own and those of its parts, so its tally is made of theirs; and a node has no more labels than the term.
use Prim.Native.Nat.{ℕ, zero, suc, ◌+◌, ◌≤◌, ◌<◌, min}
use mathlib.Core.Path.{◌≡◌, refl, sym, ap, ◌∙◌}
use mathlib.Core.Logic.{by_cases}
use mathlib.Core.Bool.{Bool, cond, true, false}
use mathlib.Core.List.{List, [], ◌∷◌}
use native.Mathlib.Omega.{arith}
use native.Mathlib.Decide.{dec_le}
use native.Mathlib.Nat.{zero-add, add-zero}
use native.Mathlib.Numerals.{add-one}
use lib.ListN.{length, get_or, take}
use lib.Seq.{length-take-le, get_or-take}
use Rattle.definitions.specs.Prop.{Prop}
use Rattle.definitions.specs.Term.{ProofTerm, Unit, annotation_count}
use Rattle.proof_term.specs.Records.{field_at, leaf, form_term, label_of, forms, record_term, record_term_at, part_count, Each, term_at, part_at}
use Rattle.proof_term.specs.Labels.{has_label, of_own_label, single, InOrder}
use Rattle.proof_term.specs.Tally.{tally_limit, tally_at, own_count, sum_of, sum_over, tally_over, Tallied, Node, root, part_of, NodesTallied}
use Rattle.proof_term.proofs.Records.{same_at, arity, part_count_lem, few_parts, term_at_is, part_below}
use Rattle.proof_term.proofs.Labels.{own_labels_lem}
use Rattle.proof_term.proofs.Counting.{count_labels, few_labels, count_in_order}

sum_le : (f : ℕ → ℕ) (i n : ℕ) → i ≤ n → sum_of i f ≤ sum_of n f
unfolding sum_of
sum_le f i zero h = let none : i ≡ 0 = omega arith in rw none (omega arith)
sum_le f i (suc n) h = by_cases (dec_le i n)
    (λ l. omega (arith, sum_le f i n l))
    (λ l. let all : i ≡ suc n = omega arith in rw all (omega arith))

sum_same : (n : ℕ) (f g : ℕ → ℕ) → ((i : ℕ) → i < n → f i ≡ g i) → sum_of n f ≡ sum_of n g
unfolding sum_of
sum_same zero f g h = refl
sum_same (suc n) f g h = omega (arith, sum_same n f g (λ i l. h i (omega arith)), h n (omega arith))

-- cut values cut the sum no lower
cut_sum : (own n : ℕ) (f : ℕ → ℕ) → min (own + sum_of n (λ i. min (f i) tally_limit)) tally_limit ≡ min (own + sum_of n f) tally_limit
unfolding sum_of
cut_sum own zero f = refl
cut_sum own (suc n) f = let before = cut_sum own n f in omega arith

-- no record has more than one label of its own
pub own_few : (kind label : ℕ) → own_count kind label ≤ 1
unfolding own_count
own_few kind label = go (has_label kind label)
  where
    go : (b : Bool) → cond b 1 0 ≤ 1
    go true = omega arith
    go false = omega arith

-- each of the numbers that are parts
pub each_at : (P : ℕ → Type 0) (numbers : List ℕ) (n i : ℕ) → n ≤ 3 → i < n
    → Each P n (get_or numbers 0 0) (get_or numbers 1 0) (get_or numbers 2 0) → P (get_or numbers i 0)
each_at P numbers zero i h l all = absurd (omega arith)
each_at P numbers (suc zero) zero h l all = all
each_at P numbers (suc zero) (suc i) h l all = absurd (omega arith)
each_at P numbers (suc (suc zero)) zero h l all = all.0
each_at P numbers (suc (suc zero)) (suc zero) h l all = all.1
each_at P numbers (suc (suc zero)) (suc (suc i)) h l all = absurd (omega arith)
each_at P numbers (suc (suc (suc n))) zero h l all = all.0
each_at P numbers (suc (suc (suc n))) (suc zero) h l all = all.1
each_at P numbers (suc (suc (suc n))) (suc (suc zero)) h l all = all.2
each_at P numbers (suc (suc (suc n))) (suc (suc (suc i))) h l all = absurd (omega arith)

-- no part, and one more
pub sum_none : (f : ℕ → ℕ) → sum_of 0 f ≡ 0
unfolding sum_of
sum_none f = refl

pub sum_more : (f : ℕ → ℕ) (i : ℕ) → sum_of (i + 1) f ≡ sum_of i f + f i
unfolding sum_of
sum_more f i = rw add-one refl

-- a loop over all parts comes to that, once it is cut
pub sum_over_is : {i sum r : ℕ} (own : ℕ) (parts : List ℕ) (value : ℕ → ℕ) → i ≡ length parts → sum ≡ own + sum_of i (λ j. value (get_or parts j 0))
    → r ≡ min sum tally_limit → r ≡ sum_over own parts value
unfolding sum_over
sum_over_is own parts value all is cut = cut ∙ rw (is, all) refl

-- the parts are the first of a record's numbers
pub sum_over_first : (own count : ℕ) (numbers : List ℕ) (value : ℕ → ℕ) → count ≤ length numbers
    → sum_over own (take count numbers) value ≡ min (own + sum_of count (λ i. value (get_or numbers i 0))) tally_limit
unfolding sum_over
sum_over_first own count numbers value few =
    rw (length-take-le count numbers few)
    (ap (λ n. min (own + n) tally_limit) (sum_same count (λ i. value (get_or (take count numbers) i 0)) (λ i. value (get_or numbers i 0)) (λ i l. ap value (get_or-take count numbers i 0 l))))

-- A record's term by its kind and the numbers behind it.
module _ (props : ℕ → Prop ℕ) (kind : ℕ) (numbers : List ℕ) where
  abbrev nth : ℕ → ℕ
  nth i = get_or numbers i 0

  abbrev term_of : (ℕ → ProofTerm ℕ) → ProofTerm ℕ
  term_of part = record_term props part kind (nth 0) (nth 1) (nth 2) (nth 3) (nth 4)

  own_counted : annotation_count (term_of (λ i. Unit)) ≡ own_count kind (nth 2)
  unfolding own_count of_own_label
  own_counted =
      sym (count_labels (term_of (λ i. Unit)))
      ∙ (ap length (own_labels_lem single props kind (nth 0) (nth 1) (nth 2) (nth 3) (nth 4)) ∙ go (has_label kind (nth 2)))
    where
      go : (b : Bool) → length (cond b (single (label_of props (nth 2) (nth 3))) []) ≡ cond b 1 0
      go true = refl
      go false = refl

  -- its labels are its own and those of its parts: one test over the table of forms
  counted : (part : ℕ → ProofTerm ℕ) → annotation_count (term_of part) ≡ own_count kind (nth 2) + sum_of (part_count kind) (λ i. annotation_count (part (nth i)))
  unfolding annotation_count sum_of
  counted part =
      rw (← own_counted, part_count_lem props kind (nth 0) (nth 1) (nth 2) (nth 3) (nth 4))
      (same_at (λ form. annotation_count (form_term part form (nth 0) (nth 1) (nth 2)))
      (λ form. annotation_count (form_term (λ i. Unit) form (nth 0) (nth 1) (nth 2)) + sum_of (arity form) (λ i. annotation_count (part (nth i))))
      (forms props (nth 0) (nth 1) (nth 2) (nth 3) (nth 4)) (leaf Unit) refl (simp (zero-add, add-zero)) kind)

  -- over parts that keep their tallies, a record of these numbers has the label count of its term, as far as the limit
  pub over_counted : (records : List ℕ) (used : ℕ) → Tallied records used → Each (λ part. part < used) (part_count kind) (nth 0) (nth 1) (nth 2)
      → tally_over records kind numbers ≡ min (annotation_count (term_of (term_at props records))) tally_limit
  unfolding tally_over
  over_counted records used t earlier =
      let counts : ℕ → ℕ = λ i. annotation_count (term_at props records (nth i)) in
      let kept = sum_same (part_count kind) (λ i. tally_at records (nth i)) (λ i. min (counts i) tally_limit)
      (λ i l. t.cut_counts (nth i) (each_at (λ part. part < used) numbers (part_count kind) i (few_parts kind) l earlier) props) in
      rw (counted (term_at props records), kept) (cut_sum (own_count kind (nth 2)) (part_count kind) counts)

-- numbers 1 to 5 of a record in a row
abbrev behind_kind : (ℕ → ℕ) → List ℕ
behind_kind f = f 1 ∷ f 2 ∷ f 3 ∷ f 4 ∷ f 5 ∷ []

in_a_row : (f : ℕ → ℕ) (i : ℕ) → i < 3 → get_or (behind_kind f) i 0 ≡ f (1 + i)
in_a_row f zero h = refl
in_a_row f (suc zero) h = refl
in_a_row f (suc (suc zero)) h = refl
in_a_row f (suc (suc (suc i))) h = absurd (omega arith)

module _ (props : ℕ → Prop ℕ) (records : List ℕ) where
  -- a part has no more labels than the whole
  part_few : (m i : ℕ) → i < part_count (field_at records m 0) → field_at records m (1 + i) < m
      → annotation_count (term_at props records (field_at records m (1 + i))) ≤ annotation_count (term_at props records m)
  unfolding record_term_at sum_of
  part_few m i h l =
      let f = field_at records m in
      let count : ℕ → ℕ = λ j. annotation_count (part_at props records m (get_or (behind_kind f) j 0)) in
      let whole = ap annotation_count (term_at_is props records m) ∙ counted props (f 0) (behind_kind f) (part_at props records m) in
      let here : count i ≡ annotation_count (term_at props records (f (1 + i))) =
      rw (in_a_row f i (omega (arith, few_parts (f 0))), part_below props records m (f (1 + i)) l) in
      omega (arith, whole, here, sum_le count (suc i) (part_count (f 0)) h)

  node_few : {n m : ℕ} → Node records n m → annotation_count (term_at props records m) ≤ annotation_count (term_at props records n)
  node_few root = omega arith
  node_few (part_of {m} {i} node h l) = omega (arith, node_few node, part_few m i h l)

-- a node of a term has no later record than the term
pub node_before : {records : List ℕ} {n m : ℕ} → Node records n m → m ≤ n
node_before root = omega arith
node_before (part_of node h l) = omega (arith, node_before node)

-- no term within the limits reaches the cut: where its records stand in order, it has no more labels than there are records
pub nodes_tallied : {records : List ℕ} {n : ℕ} → Tallied records (n + 1) → InOrder records n → n < tally_limit → NodesTallied records n
nodes_tallied {records} {n} t ordered few = record {
  counts = λ {m} node props.
      omega (
        arith,
        t.cut_counts m (omega (arith, node_before node)) props,
        node_few props records node,
        few_labels props records (n + 1),
        count_in_order props records ordered,
      );
}
