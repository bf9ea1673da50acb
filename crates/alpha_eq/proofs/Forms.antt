-- Propositions by their forms: the byte in front tells the form, and propositions with different bytes in front are different.
use Prim.Native.Nat.{ℕ, ◌+◌, ◌≤◌, ◌<◌}
use mathlib.Core.Path.{◌≡◌, refl, sym, ap, ◌∙◌, subst}
use mathlib.Core.Bool.{Bool, true, false}
use Rattle.std.specs.Prelude.{Option, None, Some, Ok}
use mathlib.Core.List.{List, ◌++◌}
use native.Mathlib.Omega.{arith}
use native.Mathlib.Decide.{dec_lt}
use lib.ListN.{length, drop, get_or}
use borrow.Author.Tests.{ne_eqb}
use Rattle.definitions.specs.Outcome.{Outcome, accepted}
use Rattle.definitions.specs.Name.{Name}
use Rattle.definitions.specs.Sheet.{marked}
use Rattle.definitions.specs.Prop.{Prop, True, False, Binary, Atom, Quantified, Sides, Applied, Scope, connective_byte, quantifier_byte, eq_connective, eq_quantifier, is_true, is_false, as_binary, as_atom, as_quantified, rename_prop}
use Rattle.definitions.specs.Code.{encode}
use Rattle.definitions.specs.Comparison.{Binding, no as a-no, and_also, alpha_eq_sides, alpha_eq_applied, alpha_eq_scope, alpha_eq_under}
use Rattle.definitions.proofs.Views.{is_true_true, is_false_true, as_binary_some, as_atom_some, as_quantified_some}
use Rattle.prefix_code.specs.Scan.{Stands, proposition_coding}
use Rattle.prefix_code.proofs.Positions.{byte_at}
use Rattle.prefix_code.proofs.Forms.{inside_at, binary_at, atom_at, quantified_at, true_at, false_at}
use Rattle.prefix_code.proofs.Reading as reading
use Rattle.alpha_eq.specs.declared.BoundObjects.{BoundObjects}
use Rattle.alpha_eq.specs.Bindings.{bindings_of}
use Rattle.alpha_eq.specs.Comparing.{Compared, compared, alpha_eq_under_in, alpha_eq_sides_in, alpha_eq_atom_in, alpha_eq_scope_in, of_sides, of_applied, of_scope, form_coding, Standing, end_of, Two, Comparable, Answers}

-- the byte in front of a proposition's code
abbrev front_byte : {N : Type 0} → Prop N → ℕ
front_byte True = 0
front_byte False = 1
front_byte (Binary c p q) = connective_byte c
front_byte (Atom a ps) = 5
front_byte (Quantified q x t p) = quantifier_byte q

front_stands : (l : List ℕ) (at : ℕ) (p : Prop ℕ) (rest : List ℕ) → drop at l ≡ encode p ++ rest → get_or l at 0 ≡ front_byte p
unfolding encode
front_stands l at True rest e = (byte_at l at (at + 1) 0 rest (omega arith) e).value
front_stands l at False rest e = (byte_at l at (at + 1) 1 rest (omega arith) e).value
front_stands l at (Binary c p q) rest e = (byte_at l at (at + 1) (connective_byte c) _ (omega arith) e).value
front_stands l at (Atom a ps) rest e = (byte_at l at (at + 1) 5 _ (omega arith) e).value
front_stands l at (Quantified q x t p) rest e = (byte_at l at (at + 1) (quantifier_byte q) _ (omega arith) e).value

front_renamed : (name_of : ℕ → Name) (p : Prop ℕ) → front_byte (rename_prop name_of p) ≡ front_byte p
unfolding rename_prop
front_renamed name_of True = refl
front_renamed name_of False = refl
front_renamed name_of (Binary c p q) = refl
front_renamed name_of (Atom a ps) = refl
front_renamed name_of (Quantified q x t p) = refl

leaf_differs : (b : Bool) → (b ≡ true → ⊥) → accepted b ≡ accepted false
leaf_differs true differ = absurd (differ refl)
leaf_differs false differ = refl

-- propositions with different bytes in front are different
fronts_differ : (p : Prop Name) (bs : List Binding) (r : Prop Name) → (front_byte p ≡ front_byte r → ⊥) → alpha_eq_under p bs r ≡ accepted false
unfolding alpha_eq_under alpha_eq_sides alpha_eq_applied alpha_eq_scope and_also a-no eq_connective eq_quantifier
fronts_differ True bs r differ = leaf_differs (is_true r) (λ e. differ (sym (ap front_byte (is_true_true e))))
fronts_differ False bs r differ = leaf_differs (is_false r) (λ e. differ (sym (ap front_byte (is_false_true e))))
fronts_differ (Binary c p q) bs r differ = go (as_binary r) refl
  where
    go : (view : Option (Sides Name)) → as_binary r ≡ view → alpha_eq_sides c (alpha_eq_under p bs) (alpha_eq_under q bs) view ≡ accepted false
    go None e = refl
    go (Some a) e = rw (ne_eqb (connective_byte c) (connective_byte a.connective) (λ same. differ (same ∙ sym (ap front_byte (as_binary_some a e)))))
fronts_differ (Atom a ps) bs r differ = go (as_atom r) refl
  where
    go : (view : Option (Applied Name)) → as_atom r ≡ view → alpha_eq_applied bs a ps view ≡ accepted false
    go None e = refl
    go (Some b) e = absurd (differ (sym (ap front_byte (as_atom_some b e))))
fronts_differ (Quantified q x t p) bs r differ = go (as_quantified r) refl
  where
    go : (view : Option (Scope Name)) → as_quantified r ≡ view → alpha_eq_scope bs q x t (alpha_eq_under p) view ≡ accepted false
    go None e = refl
    go (Some a) e = rw (ne_eqb (quantifier_byte q) (quantifier_byte a.quantifier) (λ same. differ (same ∙ sym (ap front_byte (as_quantified_some a e)))))

front_at : {names : ℕ} {code : List ℕ} {at : ℕ} (name_of : ℕ → Name) (s : Standing proposition_coding names code at)
    → get_or code at 0 ≡ front_byte (rename_prop name_of s.value)
unfolding Stands
front_at {code} {at} name_of s = front_stands code at s.value s.rest s.stands.1 ∙ sym (front_renamed name_of s.value)

pub inside : {pairs text : List ℕ} {above : List BoundObjects} {code : List ℕ} {i j : ℕ} → Comparable proposition_coding code i j pairs text above
    → (i < length code) × (j < length code)
inside {code} {i} {j} asked =
    let names = asked.names in
    let l = asked.two.left in
    let r = asked.two.right in
    ((inside_at names code i l.rest l.value l.stands).0, (inside_at names code j r.rest r.value r.stands).0)

-- the byte in front is that of a head
pub known : {pairs text : List ℕ} {above : List BoundObjects} {code : List ℕ} {i j : ℕ} → Comparable proposition_coding code i j pairs text above → get_or code i 0 < 8
known {code} {i} asked =
    let l = asked.two.left in
    (reading.inside (reading.present asked.names code i l.value l.rest l.stands)).known

module _ (pairs text : List ℕ) (above : List BoundObjects) (code : List ℕ) (i j : ℕ) where
  pub other_front : (get_or code i 0 ≡ get_or code j 0 → ⊥) → Answers proposition_coding code i j (alpha_eq_under_in pairs text above) (Ok None)
  unfolding compared alpha_eq_under_in
  other_front differ = record {
    answer = λ names two.
        let name_of = marked pairs text in
        let l = front_at name_of two.left in
        let r = front_at name_of two.right in
        rw
        (fronts_differ (rename_prop name_of two.left.value) (bindings_of name_of above) (rename_prop name_of two.right.value)
        (λ same. differ (l ∙ (same ∙ sym r))));
  }

  -- two of one leaf are the same
  pub same_leaf : get_or code i 0 ≡ get_or code j 0 → get_or code i 0 < 2
      → Answers proposition_coding code i j (alpha_eq_under_in pairs text above) (Ok (Some (i + 1, j + 1)))
  unfolding compared alpha_eq_under_in alpha_eq_under rename_prop is_true is_false encode
  same_leaf fronts low = record { answer = λ names two. go names two.left two.right (dec_lt (get_or code i 0) 1) }
    where
      go : (names : ℕ) (l : Standing proposition_coding names code i) (r : Standing proposition_coding names code j) → Dec (get_or code i 0 < 1)
          → Ok (Some (i + 1, j + 1)) ≡ compared (alpha_eq_under_in pairs text above l.value r.value) (end_of l) (end_of r)
      go names l r (yes h) =
          rw (true_at names code i l.rest l.value l.stands (omega arith), true_at names code j r.rest r.value r.stands (omega arith))
      go names l r (no h) =
          rw (false_at names code i l.rest l.value l.stands (omega arith), false_at names code j r.rest r.value r.stands (omega arith))

-- one byte stands in front at i and at j, and what has it in front is of one form
pub record SameForm {A : Type 0} (make : A → Prop ℕ) (code : List ℕ) (i j : ℕ) : Type 0 where
  pub fronts : get_or code i 0 ≡ get_or code j 0
  pub parts : {names at : ℕ} (s : Standing proposition_coding names code at) → get_or code at 0 ≡ get_or code i 0 → (a : A) × (s.value ≡ make a)

module _ (code : List ℕ) (i j : ℕ) (fronts : get_or code i 0 ≡ get_or code j 0) where
  pub same_connective : 2 ≤ get_or code i 0 → get_or code i 0 < 5 → SameForm of_sides code i j
  same_connective low high = record {
    fronts = fronts;
    parts = λ {names} {at} s here.
        let b = binary_at names code at s.rest s.value s.stands (omega arith) (omega arith) in
        (record { connective = b.connective; left = b.left; right = b.right }, b.is);
  }

  pub same_atom : get_or code i 0 ≡ 5 → SameForm of_applied code i j
  same_atom five = record {
    fronts = fronts;
    parts = λ {names} {at} s here.
        let b = atom_at names code at s.rest s.value s.stands (omega arith) in
        (record { atom = b.atom; parameters = b.parameters }, b.is);
  }

  pub same_quantifier : 5 < get_or code i 0 → SameForm of_scope code i j
  same_quantifier low = record {
    fronts = fronts;
    parts = λ {names} {at} s here.
        let b = quantified_at names code at s.rest s.value s.stands (omega arith) in
        (record { quantifier = b.quantifier; object = b.object; datatype = b.datatype; body = b.body }, b.is);
  }

-- Two propositions of one form are compared by their parts.
module _ {A : Type 0} (make : A → Prop ℕ) {code : List ℕ} {i j : ℕ} (form : SameForm make code i j) where
  -- a proposition by its parts
  form_of : {names at : ℕ} (s : Standing proposition_coding names code at) → get_or code at 0 ≡ get_or code i 0
      → (t : Standing (form_coding make) names code at) × (s.value ≡ make t.value)
  unfolding Stands
  form_of {names} {at} s here =
      let (a, is) = form.parts s here in
      let stands = subst (λ (p : Prop ℕ). Stands (proposition_coding names) code at p s.rest) is s.stands in
      (record { value = a; rest = s.rest; stands = stands }, is)

  module _ {names : ℕ} (two : Two proposition_coding code i j names) where
    left_form : (t : Standing (form_coding make) names code i) × (two.left.value ≡ make t.value)
    left_form = form_of two.left refl

    right_form : (t : Standing (form_coding make) names code j) × (two.right.value ≡ make t.value)
    right_form = form_of two.right (sym form.fronts)

    two_forms : Two (form_coding make) code i j names
    two_forms = record { left = left_form.0; right = right_form.0 }

  pub forms_asked : {pairs text : List ℕ} {above : List BoundObjects} → Comparable proposition_coding code i j pairs text above
      → Comparable (form_coding make) code i j pairs text above
  unfolding two_forms
  forms_asked asked = record { names = asked.names; two = two_forms asked.two; named = asked.named; bound = asked.bound }

  pub by_form : (outcome : A → A → Outcome Bool) (whole : Prop ℕ → Prop ℕ → Outcome Bool) → ((a b : A) → whole (make a) (make b) ≡ outcome a b)
      → {r : Compared} → Answers (form_coding make) code i j outcome r → Answers proposition_coding code i j whole r
  unfolding two_forms
  by_form outcome whole same decided = record {
    answer = λ names two.
        let parts = decided.answer names (two_forms two) in
        let (l, left) = left_form two in
        let (m, right) = right_form two in
        cc (same l.value m.value);
  }

module _ (pairs text : List ℕ) (above : List BoundObjects) where
  pub sides_under : (a b : Sides ℕ) → alpha_eq_under_in pairs text above (of_sides a) (of_sides b) ≡ alpha_eq_sides_in pairs text above a b
  unfolding alpha_eq_under_in alpha_eq_sides_in alpha_eq_under rename_prop
  sides_under a b = refl

  pub atom_under : (a b : Applied ℕ) → alpha_eq_under_in pairs text above (of_applied a) (of_applied b) ≡ alpha_eq_atom_in pairs text above a b
  unfolding alpha_eq_under_in alpha_eq_atom_in alpha_eq_under alpha_eq_applied as_atom rename_prop
  atom_under a b = refl

  pub scope_under : (a b : Scope ℕ) → alpha_eq_under_in pairs text above (of_scope a) (of_scope b) ≡ alpha_eq_scope_in pairs text above a b
  unfolding alpha_eq_under_in alpha_eq_scope_in alpha_eq_under rename_prop
  scope_under a b = refl
