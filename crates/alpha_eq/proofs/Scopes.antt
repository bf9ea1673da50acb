-- Two propositions of one quantifier: the datatypes decide, and after a yes the bodies do, with the objects bound to each other.
use Rattle.std.specs.Prelude.{Ok, None}
use Prim.Native.Nat.{ℕ, ◌+◌, ◌≤◌}
use mathlib.Core.Path.{◌≡◌, sym, ◌∙◌}
use mathlib.Core.Bool.{Bool, true, false}
use mathlib.Core.List.{List, ◌∷◌, ◌++◌}
use native.Mathlib.Omega.{arith}
use lib.ListN.{length, get_or}
use borrow.Author.Tests.{eq-eqb}
use Rattle.definitions.specs.Outcome.{accepted}
use Rattle.definitions.specs.Name.{eq_name}
use Rattle.definitions.specs.Sheet.{number_at, marked}
use Rattle.definitions.specs.Prop.{quantifier_byte, eq_quantifier, as_quantified, rename_prop}
use Rattle.definitions.specs.Code.{u16, encode, Codable}
use Rattle.definitions.specs.Comparison.{no, and_also, alpha_eq_scope, alpha_eq_under}
use Rattle.prefix_code.specs.Scan.{Stands, proposition_coding}
use Rattle.prefix_code.specs.Head.{encode_head, CodableHead}
use Rattle.prefix_code.proofs.Heads.{QuantifiedBytes, quantified_bytes}
use Rattle.alpha_eq.specs.declared.BoundObjects.{BoundObjects}
use Rattle.alpha_eq.specs.Bindings.{binding_of, bindings_of}
use Rattle.alpha_eq.specs.Comparing.{Compared, compared, alpha_eq_under_in, alpha_eq_scope_in, of_scope, form_coding, Standing, end_of, Two, Comparable, Answers}

module _ {names : ℕ} {code : List ℕ} {at : ℕ} (s : Standing (form_coding of_scope) names code at) where
  pub scope_at : QuantifiedBytes names code at s.value.quantifier s.value.object s.value.datatype (encode s.value.body ++ s.rest)
  unfolding Stands encode Codable encode_head CodableHead u16
  scope_at =
      let (g, e) = s.stands in
      quantified_bytes names code at s.value.quantifier s.value.object s.value.datatype (encode s.value.body ++ s.rest) ((g.0, g.1), e)

  body_stands : Stands (proposition_coding names) code (at + 5) s.value.body s.rest
  unfolding Stands Codable
  body_stands = (s.stands.0.2, scope_at.next)

  abbrev body_of : Standing proposition_coding names code (at + 5)
  body_of = record { value = s.value.body; rest = s.rest; stands = body_stands }

  scope_end : end_of body_of ≡ end_of s
  unfolding encode u16
  scope_end = omega arith

-- the names of two lie in the code
pub scopes_inside : {names : ℕ} {code : List ℕ} {i j : ℕ} → Two (form_coding of_scope) code i j names → (i + 5 ≤ length code) × (j + 5 ≤ length code)
scopes_inside two = (omega (arith, scope_at two.left), omega (arith, scope_at two.right))

abbrev two_bodies : {names : ℕ} {code : List ℕ} {i j : ℕ} → Two (form_coding of_scope) code i j names → Two proposition_coding code (i + 5) (j + 5) names
two_bodies two = record { left = body_of two.left; right = body_of two.right }

-- what the comparison of the bodies asks
module _ {pairs text : List ℕ} {above : List BoundObjects} {code : List ℕ} {i j : ℕ} (asked : Comparable (form_coding of_scope) code i j pairs text above) where
  pub bodies_asked : {x y : ℕ} → x ≡ number_at code (i + 1) → y ≡ number_at code (j + 1)
      → Comparable proposition_coding code (i + 5) (j + 5) pairs text (record { left = x; right = y } ∷ above)
  bodies_asked {x} {y} x-at y-at =
      let l = scope_at asked.two.left in
      let r = scope_at asked.two.right in
      record {
        names = asked.names;
        two = two_bodies asked.two;
        named = asked.named;
        bound = (asked.named x (omega arith), asked.named y (omega arith), asked.bound);
      }

module _ (pairs text : List ℕ) (above : List BoundObjects) (code : List ℕ) (i j : ℕ) {t u : ℕ} {same : Bool}
    (fronts : get_or code i 0 ≡ get_or code j 0) (t-at : t ≡ number_at code (i + 3)) (u-at : u ≡ number_at code (j + 3))
    (named : same ≡ eq_name (marked pairs text t) (marked pairs text u)) where
  -- with one byte in front the quantifiers are equal
  scope_outcome : {names : ℕ} (two : Two (form_coding of_scope) code i j names)
      → alpha_eq_scope_in pairs text above two.left.value two.right.value
      ≡ and_also (accepted same)
      (alpha_eq_under (rename_prop (marked pairs text) two.left.value.body)
      (record { left = marked pairs text two.left.value.object; right = marked pairs text two.right.value.object }
      ∷ bindings_of (marked pairs text) above)
      (rename_prop (marked pairs text) two.right.value.body))
  unfolding alpha_eq_scope_in alpha_eq_scope and_also as_quantified rename_prop eq_quantifier
  scope_outcome two =
      let l = scope_at two.left in
      let r = scope_at two.right in
      rw (
        eq-eqb (quantifier_byte two.left.value.quantifier) (quantifier_byte two.right.value.quantifier) (sym l.byte ∙ (fronts ∙ r.byte)),
        named,
        t-at,
        u-at,
        l.datatype,
        r.datatype,
      )

  -- different datatypes: no
  pub other_datatype : same ≡ false → Answers (form_coding of_scope) code i j (alpha_eq_scope_in pairs text above) (Ok None)
  unfolding compared and_also no
  other_datatype e = record { answer = λ names two. rw (scope_outcome two, e) }

  -- else the bodies decide
  pub bodies_decide : {x y : ℕ} {r : Compared} → same ≡ true → x ≡ number_at code (i + 1) → y ≡ number_at code (j + 1)
      → Answers proposition_coding code (i + 5) (j + 5) (alpha_eq_under_in pairs text (record { left = x; right = y } ∷ above)) r
      → Answers (form_coding of_scope) code i j (alpha_eq_scope_in pairs text above) r
  unfolding alpha_eq_under_in and_also bindings_of binding_of
  bodies_decide {x} {y} e x-at y-at bodies = record {
    answer = λ names two.
        let left-object : two.left.value.object ≡ x = sym (x-at ∙ (scope_at two.left).object) in
        let right-object : two.right.value.object ≡ y = sym (y-at ∙ (scope_at two.right).object) in
        rw (scope_outcome two, e, ← scope_end two.left, ← scope_end two.right, left-object, right-object)
        (bodies.answer names (two_bodies two));
  }
