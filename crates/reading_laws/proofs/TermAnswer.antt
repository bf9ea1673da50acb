-- The answer that the reader computes is the answer of the conventions: the one term of a text, or 20 where there is none.
use Prim.Native.Nat.{ℕ, ◌≤◌}
use mathlib.Core.Path.{◌≡◌, refl, sym, ◌∙◌}
use mathlib.Core.Bool.{Bool, true, false, ◌&&◌, cond, true≢false, and-eq-true_iff}
use Rattle.std.specs.Prelude.{Option, None, Some}
use mathlib.Core.List.{List, [], ◌++◌, append-nil}
use native.Mathlib.Omega.{arith}
use lib.ListN.{length}
use lib.Dec.{leb}
use borrow.Author.Tests.{leb-true, le-leb}
use Rattle.definitions.specs.declared.Style.TheVariants.{Strict}
use Rattle.definitions.specs.Outcome.{accepted, refuse}
use Rattle.definitions.specs.Name.{Name, eq_name}
use Rattle.definitions.specs.Prop.{nesting}
use Rattle.definitions.specs.Code.{whole}
use Rattle.definitions.specs.Sheet.{name_limit, code_limit, proposition_nesting_limit}
use Rattle.definitions.specs.Term.{Label, proposition, datatype, ProofTerm, Ident, Pair, Named, Function, Application, LetIn, Case, TypeAscription, Unit, Sorry}
use Rattle.definitions.specs.Text.{firsts}
use Rattle.definitions.specs.Display.{wrap, display_term}
use Rattle.definitions.specs.TermText.{OfParameterLabel, Each, term_text_limit, node_limit, term_nesting_limit, nodes, term_nesting, term_names, code_bytes, LimitedLabel, Limited, TermOf, all_admitted, Readable, ReadsAs, reads, refuses, without_ids, Restorable}
use Rattle.definitions.specs.TermReader.{Shown, standing, same, read_term, prop_levels, term_levels, is_limited_label, is_limited_parameter_label, has_limited_labels, is_limited, settled, read_answer}
use Rattle.definitions.proofs.Readings.{given, whole_read}
use Rattle.reading_laws.specs.Coded.{Coded}
use Rattle.reading_laws.proofs.PropTexts.{same_false}
use Rattle.reading_laws.proofs.TermConventions.{Gives, TermIn, gives_term}
use Rattle.reading_laws.proofs.OneTerm.{read_strict, the_term, restores}

-- both of two
pub both : {a b : Bool} → a ≡ true → b ≡ true → a && b ≡ true
both {a} {b} p q = (and-eq-true_iff a b).1 (p, q)

-- a refusal is no term
pub clash : {A : Type 0} (a : A) → refuse 20 0 ≡ accepted a → ⊥
unfolding refuse
clash a e = grind arith

-- The tests of the limits say what the limits say.
label_test : (l : Label Name) → LimitedLabel l → is_limited_label l ≡ true
unfolding LimitedLabel is_limited_label
label_test (proposition p) h = both (le-leb _ _ h.0) (le-leb _ _ h.1)
label_test (datatype t) h = refl

parameter_label_test : (l : Option (Label Name)) → OfParameterLabel LimitedLabel (λ x. Prim.Unit {0}) l → is_limited_parameter_label l ≡ true
unfolding OfParameterLabel is_limited_parameter_label
parameter_label_test None h = refl
parameter_label_test (Some l) h = label_test l h

labels_test : (t : ProofTerm Name) → Each LimitedLabel (λ x. Prim.Unit {0}) t → has_limited_labels t ≡ true
unfolding Each has_limited_labels
labels_test (Ident x) h = refl
labels_test (Pair a b) h = both (labels_test a h.0) (labels_test b h.1)
labels_test (Named f a) h = labels_test a h
labels_test (Function x l a) h = both (parameter_label_test l h.1) (labels_test a h.2)
labels_test (Application a b) h = both (labels_test a h.0) (labels_test b h.1)
labels_test (LetIn x y a b) h = both (labels_test a h.2) (labels_test b h.3)
labels_test (Case a x b y c) h = both (labels_test a h.0) (both (labels_test b h.2) (labels_test c h.4))
labels_test (TypeAscription a l) h = both (labels_test a h.0) (label_test l h.1)
labels_test Unit h = refl
labels_test Sorry h = refl

pub limits_test : (t : ProofTerm Name) → Limited t → is_limited t ≡ true
unfolding is_limited
limits_test t h = both (le-leb _ _ h.few_nodes) (both (le-leb _ _ h.shallow) (both (le-leb _ _ h.few_names) (labels_test t h.small_labels)))

label_passed : (l : Label Name) → is_limited_label l ≡ true → LimitedLabel l
unfolding LimitedLabel is_limited_label
label_passed (proposition p) h =
    let parts = (and-eq-true_iff (leb (nesting p) proposition_nesting_limit) (leb (code_bytes p) code_limit)).0 h in
    (leb-true _ _ parts.0, leb-true _ _ parts.1)
label_passed (datatype t) h = tt

parameter_label_passed : (l : Option (Label Name)) → is_limited_parameter_label l ≡ true → OfParameterLabel LimitedLabel (λ x. Prim.Unit {0}) l
unfolding OfParameterLabel is_limited_parameter_label
parameter_label_passed None h = tt
parameter_label_passed (Some l) h = label_passed l h

labels_passed : (t : ProofTerm Name) → has_limited_labels t ≡ true → Each LimitedLabel (λ x. Prim.Unit {0}) t
unfolding Each has_limited_labels
labels_passed (Ident x) h = tt
labels_passed (Pair a b) h = let p = (and-eq-true_iff (has_limited_labels a) (has_limited_labels b)).0 h in (labels_passed a p.0, labels_passed b p.1)
labels_passed (Named f a) h = labels_passed a h
labels_passed (Function x l a) h =
    let p = (and-eq-true_iff (is_limited_parameter_label l) (has_limited_labels a)).0 h in (tt, parameter_label_passed l p.0, labels_passed a p.1)
labels_passed (Application a b) h = let p = (and-eq-true_iff (has_limited_labels a) (has_limited_labels b)).0 h in (labels_passed a p.0, labels_passed b p.1)
labels_passed (LetIn x y a b) h =
    let p = (and-eq-true_iff (has_limited_labels a) (has_limited_labels b)).0 h in (tt, tt, labels_passed a p.0, labels_passed b p.1)
labels_passed (Case a x b y c) h =
    let p = (and-eq-true_iff (has_limited_labels a) (has_limited_labels b && has_limited_labels c)).0 h in
    let q = (and-eq-true_iff (has_limited_labels b) (has_limited_labels c)).0 p.1 in
    (labels_passed a p.0, tt, labels_passed b q.0, tt, labels_passed c q.1)
labels_passed (TypeAscription a l) h = let p = (and-eq-true_iff (has_limited_labels a) (is_limited_label l)).0 h in (labels_passed a p.0, label_passed l p.1)
labels_passed Unit h = tt
labels_passed Sorry h = tt

pub limits_passed : (t : ProofTerm Name) → is_limited t ≡ true → Limited t
unfolding is_limited
limits_passed t h =
    let p = (and-eq-true_iff (leb (nodes t) node_limit) _).0 h in
    let q = (and-eq-true_iff (leb (term_nesting t) term_nesting_limit) _).0 p.1 in
    let r = (and-eq-true_iff (leb (length (firsts eq_name (term_names t))) name_limit) (has_limited_labels t)).0 q.1 in
    record { few_nodes = leb-true _ _ p.0; shallow = leb-true _ _ q.0; few_names = leb-true _ _ r.0; small_labels = labels_passed t r.1 }

module _ (types : List Name) where
  module _ (text : List ℕ) where
    -- a text that has a term is answered by it
    readable_accepted : (t : ProofTerm Name) → Readable types text t → read_answer types text ≡ accepted t
    unfolding read_answer settled whole standing same
    readable_accepted t h =
        let of = h.the_term.one in
        rw (le-leb (length text) term_text_limit h.short, h.listed, read_strict types text t of, limits_test t of.limited)

    -- what was read is conventional, and the text is its text
    read_term_of : (a : Shown (ProofTerm Name)) → read_term types prop_levels term_levels text ≡ given a [] → a.own ≡ false → is_limited a.shown ≡ true
        → TermOf types text a.shown
    unfolding Gives wrap
    read_term_of a e bare limits =
        let gave : TermIn types prop_levels text a [] = rw e at (gives_term types prop_levels term_levels text) in
        let shown : text ≡ display_term Strict a.shown ++ [] = rw bare at gave.1 in
        record {
          conventional = gave.0;
          limited = limits_passed a.shown limits;
          shown = sym (append-nil (display_term Strict a.shown)) ∙ sym shown;
        }

    settled_is : (x : Option (Shown (ProofTerm Name))) → whole (read_term types prop_levels term_levels text) ≡ x → length text ≤ term_text_limit → all_admitted types ≡ true
        → read_answer types text ≡ settled x → ReadsAs types text (settled x)
    unfolding settled
    settled_is None e short listed is = refuses (λ t h. clash t (sym is ∙ readable_accepted t h))
    settled_is (Some a) e short listed is = go (same a.own false && is_limited a.shown) refl is
      where
        go : (b : Bool) → same a.own false && is_limited a.shown ≡ b
            → read_answer types text ≡ cond b (accepted a.shown) (refuse 20 0) → ReadsAs types text (cond b (accepted a.shown) (refuse 20 0))
        go true h is =
            let p = (and-eq-true_iff (same a.own false) (is_limited a.shown)).0 h in
            let of = read_term_of a (whole_read (read_term types prop_levels term_levels text) a e) (same_false a.own p.0) p.1 in
            reads a.shown (record { short = short; listed = listed; the_term = the_term types text a.shown of })
        go false h is = refuses (λ u k. clash u (sym is ∙ readable_accepted u k))

    -- the answer for every list and text
    pub answer_is : ReadsAs types text (read_answer types text)
    unfolding read_answer
    answer_is = go (leb (length text) term_text_limit && all_admitted types) refl
      where
        go : (b : Bool) → leb (length text) term_text_limit && all_admitted types ≡ b
            → ReadsAs types text (cond b (settled (whole (read_term types prop_levels term_levels text))) (refuse 20 0))
        go true h =
            let p = (and-eq-true_iff (leb (length text) term_text_limit) (all_admitted types)).0 h in
            settled_is (whole (read_term types prop_levels term_levels text)) refl (leb-true _ _ p.0) p.1 (rw h)
        go false h = refuses (λ t k. let z : false ≡ true = sym h ∙ both (le-leb (length text) term_text_limit k.short) k.listed in absurd (true≢false (sym z)))

-- the strict text of a term is answered by that term without its ids, under the provisos
pub answers_restored : (types : List Name) (t : ProofTerm Name) → Restorable types t → Each Coded (λ x. Prim.Unit {0}) t → Limited t
    → length (display_term Strict t) ≤ term_text_limit → all_admitted types ≡ true → read_answer types (display_term Strict t) ≡ accepted (without_ids t)
answers_restored types t restorable coded limited short listed =
    readable_accepted types (display_term Strict t) (without_ids t)
    (record { short = short; listed = listed; the_term = the_term types (display_term Strict t) (without_ids t) (restores types t restorable coded limited) })
