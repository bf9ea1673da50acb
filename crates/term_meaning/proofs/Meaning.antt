-- The records of a term hold that term, by induction on the term: its parts' records stand first, and its own over them.
use Prim.Native.Nat.{ℕ, ◌+◌, ◌-◌, ◌*◌, ◌/◌, ◌<◌}
use mathlib.Core.Path.{◌≡◌, refl, sym, ap, ◌∙◌}
use mathlib.Core.Bool.{true, false, true≢false}
use Rattle.std.specs.Prelude.{Option, None, Some}
use mathlib.Core.List.{List, [], ◌∷◌, ◌++◌}
use native.Mathlib.Omega.{arith}
use lib.ListN.{length, drop, length-append}
use Rattle.definitions.specs.Name.{Name}
use Rattle.definitions.specs.Prop.{Prop, rename_prop}
use Rattle.definitions.specs.Term.{Label, proposition, datatype, NamedFunction, fst, snd, inl, inr, abort, ProofTerm, Ident, Pair, Named, Function, Application, LetIn, Case, TypeAscription, Unit, Sorry, of_label, of_labels, is_labelled, annotation_count, rename_label, rename_parameter_label, rename_term}
use Rattle.definitions.specs.TermText.{nodes}
use Rattle.definitions.specs.TermMemory.{parameter_labels, text_labels, labels_size, function_kind, label_kind, parameter_label_kind, seven, label_number, parameter_label_number, records_of}
use Rattle.proof_term.specs.Records.{record_size, label_of, parameter_label, record_term, part_count, Each, term_at}
use Rattle.proof_term.specs.Labels.{has_label, of_own_label, single, term_labels}
use Rattle.term_meaning.specs.Offsets.{BeginsAt, first}
use Rattle.term_meaning.proofs.Offsets.{begins_front, begins_back}
use Rattle.term_meaning.proofs.Rows.{Stands, front, back, Node, node}
use Rattle.term_meaning.proofs.Laid.{Laid, labels_at, no_record, joined, with_node, with_plain}

-- seven numbers for each node
pub records_length : (number : Name → ℕ) (used to : ℕ) (t : ProofTerm Name) → length (records_of number used to t) ≡ record_size * nodes t
unfolding records_of seven nodes
records_length number used to (Ident x) = refl
records_length number used to (Pair a b) =
    simp length-append (omega (arith, records_length number used to a, records_length number (used + nodes a) (to + labels_size (text_labels a)) b))
records_length number used to (Named f a) = simp length-append (omega (arith, records_length number used to a))
records_length number used to (Function x l a) = simp length-append (omega (arith, records_length number used (to + labels_size (parameter_labels l)) a))
records_length number used to (Application a b) =
    simp length-append (omega (arith, records_length number used to a, records_length number (used + nodes a) (to + labels_size (text_labels a)) b))
records_length number used to (LetIn x y a b) =
    simp length-append (omega (arith, records_length number used to a, records_length number (used + nodes a) (to + labels_size (text_labels a)) b))
records_length number used to (Case a x b y c) =
    simp length-append (omega (
      arith,
      records_length number used to a,
      records_length number (used + nodes a) (to + labels_size (text_labels a)) b,
      records_length number (used + nodes a + nodes b) (to + (labels_size (text_labels a) + labels_size (text_labels b))) c,
    ))
records_length number used to (TypeAscription a l) = simp length-append (omega (arith, records_length number used to a))
records_length number used to Unit = refl
records_length number used to Sorry = refl

-- Of records over numbers of names, where the number of a proposition label fits and stands for a proposition:
module _ (number : Name → ℕ) (records : List ℕ) (Fits : ℕ → Type 0) (these : ℕ → Prop ℕ) where
  -- half the offset of each code of these labels fits, and stands for the proposition over the numbers
  abbrev pub AllFit : ℕ → List (Label Name) → Type 0
  AllFit to ls = (p : Prop Name) (at : ℕ) → BeginsAt p at to ls → Fits (at / 2) × (these (at / 2) ≡ rename_prop number p)

  fit_front : {to : ℕ} (a b : List (Label Name)) → AllFit to (a ++ b) → AllFit to a
  fit_front a b fit p at h = fit p at (begins_front b h)

  fit_back : {to : ℕ} (a b : List (Label Name)) → AllFit to (a ++ b) → AllFit (to + labels_size a) b
  fit_back a b fit p at h = fit p at (begins_back a h)

  label_means : (to : ℕ) (l : Label Name) → AllFit to (l ∷ []) → label_of these (label_kind l) (label_number number to l) ≡ rename_label number l
  unfolding label_of label_kind label_number rename_label
  label_means to (proposition p) fit = ap proposition (fit p to first).1
  label_means to (datatype t) fit = refl

  label_fits : (to : ℕ) (l : Label Name) → AllFit to (l ∷ []) → (label_kind l ≡ 2 → ⊥) → Fits (label_number number to l)
  unfolding label_kind label_number
  label_fits to (proposition p) fit other = (fit p to first).0
  label_fits to (datatype t) fit other = absurd (other refl)

  -- the label of a parameter: what it adds, what it counts, what it means, and that it fits
  record Parameter (to : ℕ) (l : Option (Label Name)) : Type 0 where
    own : (props : ℕ → Prop ℕ) (n : ℕ)
        → of_own_label single props 4 (parameter_label_kind l) n ≡ of_label single (parameter_label props (parameter_label_kind l) n)
    counts : (props : ℕ → Prop ℕ) (n : ℕ) → is_labelled (parameter_label props (parameter_label_kind l) n) ≡ is_labelled l
    means : parameter_label these (parameter_label_kind l) (parameter_label_number number to l) ≡ rename_parameter_label number l
    fits : has_label 4 (parameter_label_kind l) ≡ true → (parameter_label_kind l ≡ 2 → ⊥) → Fits (parameter_label_number number to l)

  parameter : (to : ℕ) (l : Option (Label Name)) → AllFit to (parameter_labels l) → Parameter to l
  unfolding of_own_label has_label of_label parameter_label parameter_label_kind is_labelled rename_parameter_label parameter_label_number parameter_labels label_kind
  parameter to None fit = record {
    own = λ props n. refl;
    counts = λ props n. refl;
    means = refl;
    fits = λ h other. absurd (true≢false (sym h));
  }
  parameter to (Some (proposition p)) fit = record {
    own = λ props n. refl;
    counts = λ props n. refl;
    means = ap Some (label_means to (proposition p) fit);
    fits = λ h other. label_fits to (proposition p) fit other;
  }
  parameter to (Some (datatype t)) fit = record {
    own = λ props n. refl;
    counts = λ props n. refl;
    means = ap Some (label_means to (datatype t) fit);
    fits = λ h other. label_fits to (datatype t) fit other;
  }

  -- the records from `used` on are those of the term, whose own is the last: they are good, stand in its order, and hold it
  pub record Means (used : ℕ) (t : ProofTerm Name) : Type 0 where
    pub some_node : 0 < nodes t
    pub laid : Laid records Fits used (used + nodes t) (labels_at records Fits (used + nodes t - 1))
    pub counts : (props : ℕ → Prop ℕ) → annotation_count (term_at props records (used + nodes t - 1)) ≡ annotation_count t
    pub term : term_at these records (used + nodes t - 1) ≡ rename_term number t

  -- A node over its parts.
  module _
      {used n kind a b c d e : ℕ}
      {labels : (ℕ → Prop ℕ) → List (Label ℕ)}
      {t : ProofTerm Name}
      (laid : Laid records Fits used n labels)
      (node : Node records n kind a b c d e (annotation_count t))
      (size : used + nodes t ≡ n + 1)
      (counted : (props : ℕ → Prop ℕ) → annotation_count (record_term props (term_at props records) kind a b c d e) ≡ annotation_count t)
      (is : record_term these (term_at these records) kind a b c d e ≡ rename_term number t)
    where
      closed : Laid records Fits used (n + 1) (labels_at records Fits n) → Means used t
      closed whole =
          let last : n + 1 - 1 ≡ n = omega arith in
          record {
            some_node = omega (arith, laid.upward);
            laid = rw (size, last) whole;
            counts = rw (size, last) (λ props. ap annotation_count (node.term props) ∙ counted props);
            term = rw (size, last) (node.term these ∙ is);
          }

      plain : has_label kind c ≡ false → ((props : ℕ → Prop ℕ) → labels props ≡ term_labels (record_term props (term_at props records) kind a b c d e))
          → Means used t
      plain bare own = closed (with_plain records Fits laid node counted bare own)

      labelled :
          ((props : ℕ → Prop ℕ) → labels props ++ of_own_label single props kind c d ≡ term_labels (record_term props (term_at props records) kind a b c d e))
          → (has_label kind c ≡ true → (c ≡ 2 → ⊥) → Fits d) → Means used t
      labelled own fits = closed (with_node records Fits laid node counted own fits)

  -- behind the records of a term
  behind : (used to : ℕ) (t : ProofTerm Name) {b : List ℕ} → Stands records used (records_of number used to t ++ b) → Stands records (used + nodes t) b
  behind used to t {b} s = back records (records_of number used to t) b s (nodes t) (records_length number used to t)

  -- two parts under a node without a label
  over_two :
      {used kind c d : ℕ} {a b t : ProofTerm Name} → Means used a → Means (used + nodes a) b →
      let n = used + nodes a + nodes b in
      let left = used + nodes a - 1 in
      let right = n - 1 in
      let whole : (ℕ → Prop ℕ) → ProofTerm ℕ = λ props. record_term props (term_at props records) kind left right c d 0 in
      Stands records n (kind ∷ left ∷ right ∷ c ∷ d ∷ 0 ∷ annotation_count t ∷ [])
      → nodes t ≡ 1 + (nodes a + nodes b) → has_label kind c ≡ false
      → ((left < n) × (right < n) → Each (λ part. part < n) (part_count kind) left right c)
      → ((props : ℕ → Prop ℕ) → annotation_count (whole props) ≡ annotation_count t)
      → ((props : ℕ → Prop ℕ) → labels_at records Fits left props ++ labels_at records Fits right props ≡ term_labels (whole props))
      → whole these ≡ rename_term number t → Means used t
  over_two x y s size bare two counted own is =
      plain (joined records Fits x.laid y.laid) (node records s (two (omega (arith, x.some_node), omega (arith, y.some_node))))
      (omega arith) counted is bare own

  -- the kinds of the named functions: one part and no label
  record NamedKind (f : NamedFunction) : Type 0 where
    one : part_count (function_kind f) ≡ 1
    bare : has_label (function_kind f) 0 ≡ false
    term : (props : ℕ → Prop ℕ) (part : ℕ → ProofTerm ℕ) (a : ℕ) → record_term props part (function_kind f) a 0 0 0 0 ≡ Named f (part a)

  named_kind : (f : NamedFunction) → NamedKind f
  unfolding function_kind has_label
  named_kind fst = record { one = refl; bare = refl; term = λ props part a. refl }
  named_kind snd = record { one = refl; bare = refl; term = λ props part a. refl }
  named_kind inl = record { one = refl; bare = refl; term = λ props part a. refl }
  named_kind inr = record { one = refl; bare = refl; term = λ props part a. refl }
  named_kind abort = record { one = refl; bare = refl; term = λ props part a. refl }

  pub means : (used to : ℕ) (t : ProofTerm Name) → Stands records used (records_of number used to t) → AllFit to (text_labels t) → Means used t
  unfolding records_of seven nodes text_labels annotation_count rename_term of_labels has_label of_own_label
  means used to (Ident x) s fit = plain (no_record records Fits) (node records s tt) (omega arith) (λ props. refl) refl refl (λ props. refl)
  means used to (Pair a b) s fit =
      let x = means used to a (front records _ _ s) (fit_front _ _ fit) in
      let y = means (used + nodes a) _ b (front records _ _ (behind used to a s)) (fit_back _ _ fit) in
      over_two x y (behind _ _ b (behind used to a s)) refl refl (λ h. h)
      (λ props. omega (arith, x.counts props, y.counts props)) (λ props. refl) (cc (x.term, y.term))
  means used to (Named f a) s fit =
      let x = means used to a (front records _ _ s) fit in
      let k = named_kind f in
      plain x.laid (node records (behind used to a s) (rw k.one (omega (arith, x.some_node)))) (omega arith)
      (λ props. rw (k.term props) (x.counts props)) (rw (k.term these) (ap (Named f) x.term)) k.bare (λ props. rw (k.term props))
  means used to (Function x l a) s fit =
      let y = means used _ a (front records _ _ s) (fit_back (parameter_labels l) (text_labels a) fit) in
      let p = parameter to l (fit_front (parameter_labels l) (text_labels a) fit) in
      labelled y.laid (node records (behind used _ a s) (omega (arith, y.some_node))) (omega arith)
      (λ props. omega (arith, y.counts props, p.counts props (parameter_label_number number to l))) (cc (y.term, p.means))
      (λ props. rw (p.own props (parameter_label_number number to l))) p.fits
  means used to (Application a b) s fit =
      let x = means used to a (front records _ _ s) (fit_front _ _ fit) in
      let y = means (used + nodes a) _ b (front records _ _ (behind used to a s)) (fit_back _ _ fit) in
      over_two x y (behind _ _ b (behind used to a s)) refl refl (λ h. h)
      (λ props. omega (arith, x.counts props, y.counts props)) (λ props. refl) (cc (x.term, y.term))
  means used to (LetIn z w a b) s fit =
      let x = means used to a (front records _ _ s) (fit_front _ _ fit) in
      let y = means (used + nodes a) _ b (front records _ _ (behind used to a s)) (fit_back _ _ fit) in
      over_two x y (behind _ _ b (behind used to a s)) refl refl (λ h. h)
      (λ props. omega (arith, x.counts props, y.counts props)) (λ props. refl) (cc (x.term, y.term))
  means used to (Case a v b w c) s fit =
      let x = means used to a (front records _ _ s) (fit_front _ _ fit) in
      let later = behind used to a s in
      let rest = fit_back (text_labels a) (text_labels b ++ text_labels c) fit in
      let y = means (used + nodes a) _ b (front records _ _ later) (fit_front _ _ rest) in
      let last = behind _ _ b later in
      let sum : to + labels_size (text_labels a) + labels_size (text_labels b) ≡ to + (labels_size (text_labels a) + labels_size (text_labels b)) = omega arith in
      let z = means (used + nodes a + nodes b) _ c (front records _ _ last) (rw sum at (fit_back (text_labels b) (text_labels c) rest)) in
      plain (joined records Fits x.laid (joined records Fits y.laid z.laid))
      (node records (behind _ _ c last) (omega (arith, x.some_node), omega (arith, y.some_node), omega (arith, z.some_node)))
      (omega arith) (λ props. omega (arith, x.counts props, y.counts props, z.counts props)) (cc (x.term, y.term, z.term)) refl (λ props. refl)
  means used to (TypeAscription a l) s fit =
      let x = means used to a (front records _ _ s) (fit_front _ _ fit) in
      let own = fit_back (text_labels a) (l ∷ []) fit in
      labelled x.laid (node records (behind used to a s) (omega (arith, x.some_node))) (omega arith)
      (λ props. omega (arith, x.counts props)) (cc (x.term, label_means _ l own)) (λ props. refl) (λ h other. label_fits _ l own other)
  means used to Unit s fit = plain (no_record records Fits) (node records s tt) (omega arith) (λ props. refl) refl refl (λ props. refl)
  means used to Sorry s fit = plain (no_record records Fits) (node records s tt) (omega arith) (λ props. refl) refl refl (λ props. refl)

-- the law: whatever stands before and after them, the records of a term hold it over the numbers of its names, where each number of a
-- proposition label stands for that proposition
pub records_mean : (number : Name → ℕ) (props : ℕ → Prop ℕ) (records rest : List ℕ) (used to : ℕ) (t : ProofTerm Name)
    → drop (record_size * used) records ≡ records_of number used to t ++ rest
    → ((p : Prop Name) (at : ℕ) → BeginsAt p at to (text_labels t) → props (at / 2) ≡ rename_prop number p)
    → term_at props records (used + nodes t - 1) ≡ rename_term number t
records_mean number props records rest used to t is labels =
    (means number records (λ k. Prim.Unit {0}) props used to t (record { rest = rest; is = is }) (λ p at h. (tt, labels p at h))).term
