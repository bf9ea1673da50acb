-- A record over other names holds its term over other names, and keeps its kind, its parts and the kind of its label.
use Prim.Native.Nat.{ℕ, zero, suc, ◌≤◌, ◌<◌}
use mathlib.Core.Path.{◌≡◌, refl, sym, ap, ◌∙◌, fun_ext}
use mathlib.Core.Logic.{◌⊎◌, inl, inr, by_cases}
use mathlib.Core.Bool.{Bool, true, false, cond}
use Rattle.std.specs.Prelude.{None, Some}
use mathlib.Core.List.{List}
use native.Mathlib.Omega.{arith}
use native.Mathlib.Decide.{dec_lt}
use lib.Dec.{eqb}
use borrow.Author.Tests.{eqb-false, ne_eqb}
use Rattle.definitions.specs.Prop.{Prop, rename_prop}
use Rattle.definitions.specs.Term as term
use Rattle.definitions.specs.Term.{proposition, datatype, ProofTerm, rename_label, rename_parameter_label, rename_term}
use Rattle.proof_term.specs.Records.{field_at, leaf, label_of, parameter_label, forms, record_term, record_term_at, part_count, Each, term_at, part_at}
use Rattle.proof_term.specs.Views.{kind_number, kind_of}
use Rattle.proof_term.specs.declared.nodes.Kind.{Kind}
use Rattle.proof_term.specs.declared.nodes.Kind.TheVariants.{Ident, Pair, ProjectFst, ProjectSnd, Function, Application, LetIn, OrLeft, OrRight, Case, Abort, TypeAscription, Unit, Sorry}
use Rattle.std.proofs.lemmas.List.{get_or_past}
use Rattle.proof_term.proofs.Views.{by_kind, kind_unknown}
use Rattle.proof_term.specs.Labels.{has_label, Labelled}
use Rattle.proof_term.proofs.Labels.{labelled_kind}
use Rattle.proof_term.proofs.Records.{term_at_is, part_below, part_else}
use Rattle.term_renumbering.specs.Over.{is_name, number_over, RecordsOver, LabelOver}

module _ (f : ℕ → ℕ) where
  abbrev over : Kind → ℕ → ℕ → ℕ → ℕ
  over = number_over f

  -- labels over other names
  module _ (props renamed : ℕ → Prop ℕ) (label number : ℕ) where
    label_over : ((label ≡ 2 → ⊥) → renamed number ≡ rename_prop f (props number))
        → label_of renamed label (cond (eqb label 2) (f number) number) ≡ rename_label f (label_of props label number)
    unfolding label_of rename_label
    label_over h = go (eqb label 2) refl
      where
        go : (b : Bool) → eqb label 2 ≡ b
            → cond b (datatype (cond b (f number) number)) (proposition (renamed (cond b (f number) number)))
            ≡ rename_label f (cond b (datatype number) (proposition (props number)))
        go true e = refl
        go false e = ap proposition (h (eqb-false label 2 e))

    parameter_over : ((label ≡ 0 → ⊥) → (label ≡ 2 → ⊥) → renamed number ≡ rename_prop f (props number))
        → parameter_label renamed label (cond (eqb label 2) (f number) number) ≡ rename_parameter_label f (parameter_label props label number)
    unfolding parameter_label rename_parameter_label
    parameter_over h = go (eqb label 0) refl
      where
        go : (b : Bool) → eqb label 0 ≡ b
            → cond b None (Some (label_of renamed label (cond (eqb label 2) (f number) number)))
            ≡ rename_parameter_label f (cond b None (Some (label_of props label number)))
        go true e = refl
        go false e = ap Some (label_over (h (eqb-false label 0 e)))

  -- a record of each kind makes of its parts over other names what it made of them, over other names
  module _ (props renamed : ℕ → Prop ℕ) (part : ℕ → ProofTerm ℕ) (a b c d e : ℕ) where
    abbrev Same : ℕ → Type 0
    Same kind =
        (has_label kind c ≡ true → (c ≡ 2 → ⊥) → renamed d ≡ rename_prop f (props d))
        → let k = kind_of kind in
        record_term renamed (λ i. rename_term f (part i)) kind (over k c 1 a) (over k c 2 b) (over k c 3 c) (over k c 4 d) (over k c 5 e)
        ≡ rename_term f (record_term props part kind a b c d e)

    known_over : (kind : Kind) → Same (kind_number kind)
    unfolding rename_term number_over is_name kind_of has_label
    known_over Ident h = refl
    known_over Pair h = refl
    known_over ProjectFst h = refl
    known_over ProjectSnd h = refl
    known_over Function h = rw (parameter_over props renamed c d (λ x y. h (rw (ne_eqb c 0 x)) y))
    known_over Application h = refl
    known_over LetIn h = refl
    known_over OrLeft h = refl
    known_over OrRight h = refl
    known_over Case h = refl
    known_over Abort h = refl
    known_over TypeAscription h = rw (label_over props renamed c d (λ y. h refl y))
    known_over Unit h = refl
    known_over Sorry h = refl

    unknown_over : (kind : ℕ) → 14 ≤ kind → Same kind
    unfolding rename_term
    unknown_over kind l h =
        let k = kind_of kind in
        rw (get_or_past (forms renamed (over k c 1 a) (over k c 2 b) (over k c 3 c) (over k c 4 d) (over k c 5 e)) kind (leaf term.Unit) l, get_or_past (forms props a b c d e) kind (leaf term.Unit) l)

    kind_over : (kind : ℕ) → Same kind
    kind_over = by_kind Same known_over unknown_over

  -- the kind and the parts are no names
  record Keeps (P : ℕ → Type 0) (a b c kind : ℕ) : Type 0 where
    kind_kept : over (kind_of kind) c 0 kind ≡ kind
    parts_kept : Each P (part_count kind) a b c → Each P (part_count kind) (over (kind_of kind) c 1 a) (over (kind_of kind) c 2 b) (over (kind_of kind) c 3 c)

  module _ (P : ℕ → Type 0) (a b c : ℕ) where
    known_keeps : (kind : Kind) → Keeps P a b c (kind_number kind)
    unfolding number_over is_name kind_of
    known_keeps Ident = record { kind_kept = refl; parts_kept = λ h. h }
    known_keeps Pair = record { kind_kept = refl; parts_kept = λ h. h }
    known_keeps ProjectFst = record { kind_kept = refl; parts_kept = λ h. h }
    known_keeps ProjectSnd = record { kind_kept = refl; parts_kept = λ h. h }
    known_keeps Function = record { kind_kept = refl; parts_kept = λ h. h }
    known_keeps Application = record { kind_kept = refl; parts_kept = λ h. h }
    known_keeps LetIn = record { kind_kept = refl; parts_kept = λ h. h }
    known_keeps OrLeft = record { kind_kept = refl; parts_kept = λ h. h }
    known_keeps OrRight = record { kind_kept = refl; parts_kept = λ h. h }
    known_keeps Case = record { kind_kept = refl; parts_kept = λ h. h }
    known_keeps Abort = record { kind_kept = refl; parts_kept = λ h. h }
    known_keeps TypeAscription = record { kind_kept = refl; parts_kept = λ h. h }
    known_keeps Unit = record { kind_kept = refl; parts_kept = λ h. h }
    known_keeps Sorry = record { kind_kept = refl; parts_kept = λ h. h }

    unknown_keeps : (kind : ℕ) → 14 ≤ kind → Keeps P a b c kind
    unfolding number_over is_name
    unknown_keeps kind l =
        record { kind_kept = rw (kind_unknown kind l); parts_kept = λ h. rw (kind_unknown kind l) h }

    kind_keeps : (kind : ℕ) → Keeps P a b c kind
    kind_keeps = by_kind (Keeps P a b c) known_keeps unknown_keeps

  -- Of the records up to n:
  module _ {before after : List ℕ} {n : ℕ} (r : RecordsOver f before n after) where
    pub same_kind : (m : ℕ) → m ≤ n → field_at after m 0 ≡ field_at before m 0
    same_kind m h =
        (r.up_to m h).numbers 0 (omega arith)
        ∙ (kind_keeps (λ i. i ≡ i) (field_at before m 1) (field_at before m 2) (field_at before m 3) (field_at before m 0)).kind_kept

    pub same_parts : (P : ℕ → Type 0) (m : ℕ) → m ≤ n
        → Each P (part_count (field_at before m 0)) (field_at before m 1) (field_at before m 2) (field_at before m 3)
        → Each P (part_count (field_at after m 0)) (field_at after m 1) (field_at after m 2) (field_at after m 3)
    same_parts P m h each =
        let o = (r.up_to m h).numbers in
        rw (same_kind m h, o 1 (omega arith), o 2 (omega arith), o 3 (omega arith))
        ((kind_keeps P (field_at before m 1) (field_at before m 2) (field_at before m 3) (field_at before m 0)).parts_kept each)

    -- the names
    module _ (m : ℕ) (h : m ≤ n) where
      pub ident_over : field_at after m 0 ≡ 0 → field_at after m 1 ≡ f (field_at before m 1)
      unfolding number_over is_name kind_of
      ident_over k = rw (sym (same_kind m h) ∙ k) at ((r.up_to m h).numbers 1 (omega arith))

      pub function_over : field_at after m 0 ≡ 4 → field_at after m 2 ≡ f (field_at before m 2)
      unfolding number_over is_name kind_of
      function_over k = rw (sym (same_kind m h) ∙ k) at ((r.up_to m h).numbers 2 (omega arith))

      pub left_over : field_at after m 0 ≡ 9 → field_at after m 4 ≡ f (field_at before m 4)
      unfolding number_over is_name kind_of
      left_over k = rw (sym (same_kind m h) ∙ k) at ((r.up_to m h).numbers 4 (omega arith))

      pub right_over : field_at after m 0 ≡ 9 → field_at after m 5 ≡ f (field_at before m 5)
      unfolding number_over is_name kind_of
      right_over k = rw (sym (same_kind m h) ∙ k) at ((r.up_to m h).numbers 5 (omega arith))

      -- a proposition label is as it was
      pub record SameLabel : Type 0 where
        pub labelled : Labelled before m
        pub kind : field_at after m 3 ≡ field_at before m 3
        pub number : (field_at before m 3 ≡ 2 → ⊥) → field_at after m 4 ≡ field_at before m 4

      pub same_label : Labelled after m → SameLabel
      unfolding has_label number_over is_name kind_of
      same_label l = go (labelled_kind (field_at after m 0) (field_at after m 3) l)
        where
          o : (i : ℕ) → i < 6 → field_at after m i ≡ number_over f (kind_of (field_at before m 0)) (field_at before m 3) i (field_at before m i)
          o = (r.up_to m h).numbers

          third : (kind : ℕ) → field_at before m 0 ≡ kind → number_over f (kind_of kind) (field_at before m 3) 3 (field_at before m 3) ≡ field_at before m 3
              → field_at after m 3 ≡ field_at before m 3
          third kind k e = o 3 (omega arith) ∙ rw k e

          fourth : (kind : ℕ) → field_at before m 0 ≡ kind
              → ((field_at before m 3 ≡ 2 → ⊥) → number_over f (kind_of kind) (field_at before m 3) 4 (field_at before m 4) ≡ field_at before m 4)
              → (field_at before m 3 ≡ 2 → ⊥) → field_at after m 4 ≡ field_at before m 4
          fourth kind k e other = o 4 (omega arith) ∙ rw k (e other)

          go : (field_at after m 0 ≡ 11) ⊎ ((field_at after m 0 ≡ 4) × (eqb (field_at after m 3) 0 ≡ false)) → SameLabel
          go (inl k) =
              let was : field_at before m 0 ≡ 11 = sym (same_kind m h) ∙ k in
              record {
                labelled = rw was refl;
                kind = third 11 was refl;
                number = fourth 11 was (λ x. rw (ne_eqb (field_at before m 3) 2 x));
              }
          go (inr (k, e)) =
              let was : field_at before m 0 ≡ 4 = sym (same_kind m h) ∙ k in
              let label : field_at after m 3 ≡ field_at before m 3 = third 4 was refl in
              record {
                labelled = rw (was, ← label, e);
                kind = label;
                number = fourth 4 was (λ x. rw (ne_eqb (field_at before m 3) 2 x));
              }

    record_over : (props renamed : ℕ → Prop ℕ) (part : ℕ → ProofTerm ℕ) (m : ℕ) → m ≤ n → LabelOver f props renamed before m
        → record_term_at renamed (λ i. rename_term f (part i)) after m ≡ rename_term f (record_term_at props part before m)
    unfolding record_term_at
    record_over props renamed part m h l =
        let o = (r.up_to m h).numbers in
        let same = kind_over props renamed part (field_at before m 1) (field_at before m 2) (field_at before m 3) (field_at before m 4) (field_at before m 5) (field_at before m 0) l.is in
        rw (same_kind m h, o 1 (omega arith), o 2 (omega arith), o 3 (omega arith), o 4 (omega arith), o 5 (omega arith)) same

    term_over : (props renamed : ℕ → Prop ℕ) → ((m : ℕ) → m ≤ n → LabelOver f props renamed before m)
        → (fuel m : ℕ) → m < fuel → m ≤ n → term_at renamed after m ≡ rename_term f (term_at props before m)
    unfolding rename_term
    term_over props renamed labels zero m h k = absurd (omega arith)
    term_over props renamed labels (suc fuel) m h k =
        let parts : part_at renamed after m ≡ (λ i. rename_term f (part_at props before m i)) = fun_ext λ i. by_cases (dec_lt i m)
        (λ l.
        part_below renamed after m i l
        ∙ term_over props renamed labels fuel i (omega arith) (omega arith)
        ∙ ap (rename_term f) (sym (part_below props before m i l)))
        (λ l. part_else renamed after m i (omega arith) ∙ ap (rename_term f) (sym (part_else props before m i (omega arith)))) in
        term_at_is renamed after m
        ∙ ap (λ (part : ℕ → ProofTerm ℕ). record_term_at renamed part after m) parts
        ∙ record_over props renamed (part_at props before m) m k (labels m k)
        ∙ ap (rename_term f) (sym (term_at_is props before m))

    -- each record up to n holds its term over other names, where the labels' numbers stand for their propositions over other names
    pub terms_over : (props renamed : ℕ → Prop ℕ) → ((m : ℕ) → m ≤ n → LabelOver f props renamed before m)
        → (m : ℕ) → m ≤ n → term_at renamed after m ≡ rename_term f (term_at props before m)
    terms_over props renamed labels m h = term_over props renamed labels (suc m) m (omega arith) h
