-- Two propositions of one connective: the left sides decide, and after a yes the right ones do.
use Rattle.std.specs.Prelude.{Ok, Some}
use Prim.Native.Nat.{ℕ, ◌+◌, ◌<◌}
use mathlib.Core.Path.{◌≡◌, sym, ◌∙◌}
use mathlib.Core.List.{List, ◌++◌, append_assoc}
use native.Mathlib.Omega.{arith}
use lib.ListN.{length, drop, get_or, length-append}
use borrow.Author.Tests.{eq-eqb}
use Rattle.definitions.specs.Prop.{Sides, connective_byte, eq_connective, as_binary, rename_prop}
use Rattle.definitions.specs.Code.{encode, Codable}
use Rattle.definitions.specs.Comparison.{and_also, alpha_eq_sides}
use Rattle.prefix_code.specs.Scan.{Stands, proposition_coding}
use Rattle.prefix_code.proofs.Positions.{after, byte_at}
use Rattle.alpha_eq.specs.declared.BoundObjects.{BoundObjects}
use Rattle.alpha_eq.specs.Comparing.{Compared, alpha_eq_under_in, alpha_eq_sides_in, of_sides, form_coding, Standing, end_of, Two, Comparable, Answers}
use Rattle.alpha_eq.proofs.Outcomes.{Stops, yes_ends, stopped, followed}
use Rattle.alpha_eq.proofs.Standing.{moved}

-- the byte in front of a proposition of two sides, and where the sides stand
record SidesAt (names : ℕ) (code : List ℕ) (at : ℕ) (a : Sides ℕ) : Type 0 where
  inside : at < length code
  byte : get_or code at 0 ≡ connective_byte a.connective
  left_rest : List ℕ
  right_rest : List ℕ
  left_stands : Stands (proposition_coding names) code (at + 1) a.left left_rest
  right_stands : Stands (proposition_coding names) code (at + 1 + length (encode a.left)) a.right right_rest

module _ {names : ℕ} {code : List ℕ} {at : ℕ} (s : Standing (form_coding of_sides) names code at) where
  sides_at : SidesAt names code at s.value
  unfolding Stands encode Codable
  sides_at =
      let (g, e) = s.stands in
      let p = s.value.left in
      let q = s.value.right in
      let b = byte_at code at (at + 1) (connective_byte s.value.connective) (encode p ++ encode q ++ s.rest) (omega arith) e in
      let next : drop (at + 1) code ≡ encode p ++ (encode q ++ s.rest) = cc (b.next, append_assoc (encode p) (encode q) s.rest) in
      record {
        inside = b.inside;
        byte = b.value;
        left_rest = encode q ++ s.rest;
        right_rest = s.rest;
        left_stands = (g.0, next);
        right_stands = (g.1, after code (at + 1) (encode p) (encode q ++ s.rest) next);
      }

  abbrev left_side : Standing proposition_coding names code (at + 1)
  left_side = record { value = s.value.left; rest = sides_at.left_rest; stands = sides_at.left_stands }

  abbrev right_side : Standing proposition_coding names code (end_of left_side)
  right_side = record { value = s.value.right; rest = sides_at.right_rest; stands = sides_at.right_stands }

  sides_end : end_of right_side ≡ end_of s
  unfolding encode
  sides_end = omega (arith, length-append (encode s.value.left) (encode s.value.right))

module _ {names : ℕ} {code : List ℕ} {i j : ℕ} (two : Two (form_coding of_sides) code i j names) where
  abbrev two_lefts : Two proposition_coding code (i + 1) (j + 1) names
  two_lefts = record { left = left_side two.left; right = left_side two.right }

  abbrev two_rights : {a b : ℕ} → a ≡ end_of (left_side two.left) → b ≡ end_of (left_side two.right) → Two proposition_coding code a b names
  two_rights at_left at_right = record { left = moved at_left (right_side two.left); right = moved at_right (right_side two.right) }

  -- with one byte in front the connectives are equal
  sides_outcome : (pairs text : List ℕ) (above : List BoundObjects) → get_or code i 0 ≡ get_or code j 0
      → alpha_eq_sides_in pairs text above two.left.value two.right.value
      ≡ and_also (alpha_eq_under_in pairs text above two.left.value.left two.right.value.left)
      (alpha_eq_under_in pairs text above two.left.value.right two.right.value.right)
  unfolding alpha_eq_sides_in alpha_eq_under_in alpha_eq_sides and_also as_binary rename_prop eq_connective
  sides_outcome pairs text above fronts =
      let l = sides_at two.left in
      let r = sides_at two.right in
      rw (eq-eqb (connective_byte two.left.value.connective) (connective_byte two.right.value.connective) (sym l.byte ∙ (fronts ∙ r.byte)))

-- what the comparison of the left sides asks
module _ {pairs text : List ℕ} {above : List BoundObjects} {code : List ℕ} {i j : ℕ} (asked : Comparable (form_coding of_sides) code i j pairs text above) where
  pub sides_inside : (i < length code) × (j < length code)
  sides_inside = ((sides_at asked.two.left).inside, (sides_at asked.two.right).inside)

  pub lefts_asked : Comparable proposition_coding code (i + 1) (j + 1) pairs text above
  lefts_asked = record { names = asked.names; two = two_lefts asked.two; named = asked.named; bound = asked.bound }

  -- and, after a yes, that of the right ones
  module _ {a b : ℕ} (lefts : Answers proposition_coding code (i + 1) (j + 1) (alpha_eq_under_in pairs text above) (Ok (Some (a, b)))) where
    pub rights_after : i < a
    rights_after = let at = yes_ends _ _ _ (lefts.answer asked.names (two_lefts asked.two)) in omega arith

    pub rights_asked : Comparable proposition_coding code a b pairs text above
    rights_asked =
        let at = yes_ends _ _ _ (lefts.answer asked.names (two_lefts asked.two)) in
        record { names = asked.names; two = two_rights asked.two at.1 at.2; named = asked.named; bound = asked.bound }

module _ (pairs text : List ℕ) (above : List BoundObjects) (code : List ℕ) (i j : ℕ) (fronts : get_or code i 0 ≡ get_or code j 0) where
  -- a no or a refusal of the left sides is the answer
  pub lefts_stop : {r : Compared} → Answers proposition_coding code (i + 1) (j + 1) (alpha_eq_under_in pairs text above) r → Stops r
      → Answers (form_coding of_sides) code i j (alpha_eq_sides_in pairs text above) r
  lefts_stop lefts s = record {
    answer = λ names two.
        rw (sides_outcome two pairs text above fronts) (stopped _ _ _ s (lefts.answer names (two_lefts two)) _ _ _);
  }

  -- after a yes the right sides decide
  pub rights_decide : {a b : ℕ} {r : Compared}
      → Answers proposition_coding code (i + 1) (j + 1) (alpha_eq_under_in pairs text above) (Ok (Some (a, b)))
      → Answers proposition_coding code a b (alpha_eq_under_in pairs text above) r
      → Answers (form_coding of_sides) code i j (alpha_eq_sides_in pairs text above) r
  rights_decide lefts rights = record {
    answer = λ names two.
        let (accepts, at_left, at_right) = yes_ends _ _ _ (lefts.answer names (two_lefts two)) in
        rw (sides_outcome two pairs text above fronts)
        (followed _ _ accepts (omega (arith, sides_end two.left)) (omega (arith, sides_end two.right))
        (rights.answer names (two_rights two at_left at_right)));
  }
