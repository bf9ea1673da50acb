-- A record's own label by its numbers; and where the records stand in the term's order, their labels one after the other are the term's.
use Prim.Native.Nat.{ℕ, zero, suc, ◌+◌, ◌*◌, ◌<◌}
use mathlib.Core.Path.{◌≡◌, refl, sym, ap, ◌∙◌}
use mathlib.Core.Bool.{Bool, true, false, true≢false, not, cond}
use mathlib.Core.Logic.{◌⊎◌, inl, inr, by_cases}
use Rattle.std.specs.Prelude.{Option, None, Some}
use mathlib.Core.List.{List, [], ◌∷◌, ◌++◌, append-nil, append_assoc}
use native.Mathlib.Omega.{arith}
use native.Mathlib.Decide.{ℕ_discrete}
use native.Mathlib.Numerals.{add-one}
use lib.ListN.{get_or, set, take, replicate, get_or-map}
use lib.Seq.{get_or-set_other}
use lib.Dec.{eqb}
use borrow.Author.Tests.{ne_eqb, not-true}
use Rattle.definitions.specs.Prop.{Prop}
use Rattle.definitions.specs.Term.{Label, ProofTerm, Ident, Pair, Named, Function, Application, LetIn, Case, TypeAscription, Unit, Sorry, of_label, of_labels}
use Rattle.proof_term.specs.Records.{record_size, field_at, leaf, form_term, label_of, parameter_label, forms, record_term, term_at}
use Rattle.proof_term.specs.Labels.{has_label, of_own_label, of_record, of_records, single, term_labels, record_label, record_labels, InOrder}
use Rattle.proof_term.proofs.Records.{fewer, same_field}

-- the records that have a label: an ascription, and a function whose parameter's label is there
pub labelled_kind : (kind label : ℕ) → has_label kind label ≡ true → (kind ≡ 11) ⊎ ((kind ≡ 4) × (eqb label 0 ≡ false))
unfolding has_label
labelled_kind kind label h = by_cases (ℕ_discrete kind 11)
    inl
    (λ other. by_cases (ℕ_discrete kind 4)
    (λ e. inr (e, not-true (eqb label 0) (rw e at h)))
    (λ another. absurd (true≢false (sym (rw (ne_eqb kind 11 other, ne_eqb kind 4 another) at h)))))

-- no other kind has a label
pub no_label : (kind label : ℕ) → (kind ≡ 11 → ⊥) → (kind ≡ 4 → ⊥) → has_label kind label ≡ false
unfolding has_label
no_label kind label other another = rw (ne_eqb kind 11 other, ne_eqb kind 4 another)

-- What a label adds, whatever that is.
module _ {A : Type 0} (add : Label ℕ → List A) (props : ℕ → Prop ℕ) where
  -- by whether the record has one
  pub own_label : (kind label number : ℕ) → has_label kind label ≡ true → of_own_label add props kind label number ≡ add (label_of props label number)
  unfolding of_own_label
  own_label kind label number h = rw h

  pub own_none : (kind label number : ℕ) → has_label kind label ≡ false → of_own_label add props kind label number ≡ []
  unfolding of_own_label
  own_none kind label number h = rw h

  none_at : (n i : ℕ) → ◌≡◌ {A = List A} (get_or (replicate n []) i []) []
  none_at zero i = refl
  none_at (suc n) zero = refl
  none_at (suc n) (suc i) = none_at n i

  of_parameter : (kind number : ℕ) → of_label add (parameter_label props kind number) ≡ of_own_label add props 4 kind number
  unfolding of_label parameter_label of_own_label has_label
  of_parameter kind number = go (eqb kind 0)
    where
      go : (b : Bool) → of_label add (cond b None (Some (label_of props kind number))) ≡ cond (not b) (add (label_of props kind number)) []
      go true = refl
      go false = refl

  -- over parts without labels a record's term has the record's own: one test over the table of forms
  pub own_labels_lem : (kind a b c d e : ℕ) → of_labels add (record_term props (λ i. Unit) kind a b c d e) ≡ of_own_label add props kind c d
  unfolding of_labels of_own_label has_label
  own_labels_lem kind a b c d e =
      let table = forms props a b c d e in
      sym (get_or-map (λ form. of_labels add (form_term (λ i. Unit) form a b c)) table kind (leaf Unit))
      ∙ by_cases (ℕ_discrete kind 11)
      (λ is. rw is)
      (λ other. by_cases (ℕ_discrete kind 4)
      (λ is. rw is (of_parameter c d))
      (λ another.
      rw (ne_eqb kind 11 other, ne_eqb kind 4 another)
      (get_or-set_other (set (replicate 14 []) 4 (of_label add (parameter_label props c d))) 11 kind (add (label_of props c d)) [] other
      ∙ (get_or-set_other (replicate 14 []) 4 kind (of_label add (parameter_label props c d)) [] another
      ∙ none_at 14 kind))))

  -- records that keep their numbers keep what their labels add
  record_same : (r s : List ℕ) (n : ℕ) → take (record_size * (n + 1)) r ≡ take (record_size * (n + 1)) s → of_record add props r n ≡ of_record add props s n
  record_same r s n e = cc (same_field r s n e 0 (omega arith), same_field r s n e 3 (omega arith), same_field r s n e 4 (omega arith))

  pub record_kept : (r s : List ℕ) (n : ℕ) → take (record_size * n) r ≡ take (record_size * n) s → (m : ℕ) → m < n → of_record add props r m ≡ of_record add props s m
  record_kept r s n e m l = record_same r s m (fewer r s (record_size * n) (record_size * (m + 1)) e (omega arith))

  pub records_kept : (r s : List ℕ) (n : ℕ) → take (record_size * n) r ≡ take (record_size * n) s → of_records add props r n ≡ of_records add props s n
  unfolding of_records
  records_kept r s zero e = refl
  records_kept r s (suc n) e =
      cc (records_kept r s n (fewer r s (record_size * suc n) (record_size * n) e (omega arith)), record_kept r s (suc n) e n (omega arith))

  -- one record more
  pub records_more : (records : List ℕ) (m : ℕ) → of_records add props records (m + 1) ≡ of_records add props records m ++ of_record add props records m
  unfolding of_records
  records_more records m = rw add-one

  -- One record more, by whether it has a label, as a loop over the records meets it.
  module _ (records : List ℕ) (m : ℕ) {kind label : ℕ} (k : kind ≡ field_at records m 0) (l : label ≡ field_at records m 3) where
    pub records_labelled : {number : ℕ} → number ≡ field_at records m 4 → has_label kind label ≡ true
        → of_records add props records (m + 1) ≡ of_records add props records m ++ add (label_of props label number)
    records_labelled {number} n h =
        records_more records m ∙ ap (λ own. of_records add props records m ++ own) (rw (← k, ← l, ← n) (own_label kind label number h))

    pub records_unlabelled : has_label kind label ≡ false → of_records add props records (m + 1) ≡ of_records add props records m
    records_unlabelled h =
        records_more records m
        ∙ (ap (λ own. of_records add props records m ++ own) (rw (← k, ← l) (own_none kind label (field_at records m 4) h)) ∙ append-nil _)

-- What labels add one after the other.
module _ {N A : Type 0} (add : Label N → List A) where
  of_all : List (Label N) → List A
  of_all [] = []
  of_all (l ∷ ls) = add l ++ of_all ls

  all_joined : (a b : List (Label N)) → of_all (a ++ b) ≡ of_all a ++ of_all b
  unfolding of_all
  all_joined [] b = refl
  all_joined (l ∷ a) b = rw (all_joined a b) (sym (append_assoc (add l) (of_all a) (of_all b)))

  all_single : (l : Label N) → of_all (single l) ≡ add l
  unfolding of_all
  all_single l = append-nil (add l)

  all_label : (l : Option (Label N)) → of_all (of_label single l) ≡ of_label add l
  unfolding of_label of_all
  all_label None = refl
  all_label (Some l) = append-nil (add l)

  all_labels : (t : ProofTerm N) → of_all (term_labels t) ≡ of_labels add t
  unfolding of_labels of_all
  all_labels (Ident x) = refl
  all_labels (Pair a b) = all_joined (term_labels a) (term_labels b) ∙ rw (all_labels a, all_labels b)
  all_labels (Named f a) = all_labels a
  all_labels (Function x l a) = all_joined (term_labels a) (of_label single l) ∙ rw (all_labels a, all_label l)
  all_labels (Application a b) = all_joined (term_labels a) (term_labels b) ∙ rw (all_labels a, all_labels b)
  all_labels (LetIn x y a b) = all_joined (term_labels a) (term_labels b) ∙ rw (all_labels a, all_labels b)
  all_labels (Case a x b y c) =
      all_joined (term_labels a) (term_labels b ++ term_labels c)
      ∙ rw (all_joined (term_labels b) (term_labels c), all_labels a, all_labels b, all_labels c)
  all_labels (TypeAscription a l) = all_joined (term_labels a) (single l) ∙ rw (all_labels a, all_single l)
  all_labels Unit = refl
  all_labels Sorry = refl

module _ {A : Type 0} (add : Label ℕ → List A) (props : ℕ → Prop ℕ) (records : List ℕ) where
  all_record : (m : ℕ) → of_all add (record_label props records m) ≡ of_record add props records m
  unfolding of_own_label of_all
  all_record m = go (has_label (field_at records m 0) (field_at records m 3))
    where
      go : (b : Bool) → of_all add (cond b (single (label_of props (field_at records m 3) (field_at records m 4))) [])
          ≡ cond b (add (label_of props (field_at records m 3) (field_at records m 4))) []
      go true = append-nil _
      go false = refl

  all_records : (n : ℕ) → of_all add (record_labels props records n) ≡ of_records add props records n
  unfolding of_records of_all
  all_records zero = refl
  all_records (suc n) = all_joined add (record_labels props records n) (record_label props records n) ∙ rw (all_records n, all_record n)

  -- the law of the readers: where the records stand in the term's order, what their labels add in a row is what the term's labels add
  pub in_order : {n : ℕ} → InOrder records n → of_records add props records (n + 1) ≡ of_labels add (term_at props records n)
  in_order {n} o = sym (all_records (n + 1)) ∙ (ap (of_all add) (o.labels props) ∙ all_labels add (term_at props records n))
