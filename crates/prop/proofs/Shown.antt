-- How the strength and the text of a proposition follow from its byte in front and from its parts.
use Prim.Native.Nat.{ℕ, ◌+◌, ◌<◌}
use mathlib.Core.Path.{◌≡◌, refl, sym, ap, subst, ◌∙◌}
use mathlib.Core.Bool.{true, false, cond}
use mathlib.Core.List.{List, [], ◌∷◌, ◌++◌, append_assoc}
use native.Mathlib.Omega.{arith}
use lib.ListN.{get_or}
use lib.Dec.{eqb, ltb}
use borrow.Author.Tests.{eq-eqb, ne_eqb}
use Rattle.definitions.specs.Utf8.{utf8}
use Rattle.definitions.specs.Name.{Name}
use Rattle.definitions.specs.Prop.{Prop, True, False, Binary, Atom, Quantified, Connective, and, or, impl, connective_byte, eq_connective, for_all, exists, quantifier_byte, is_false, rename_prop}
use Rattle.definitions.specs.Code.{encode}
use Rattle.definitions.specs.Sheet.{number_at}
use Rattle.definitions.specs.Display.{wrap, is_negation, connective_precedence, precedence, wraps_left, wraps_right, connective_text, quantifier_text, display_prop}
use Rattle.definitions.proofs.Connectives.{eq_connective_true}
use Rattle.prefix_code.proofs.Heads.{connective_byte_lem, quantifier_byte_lem}
use Rattle.prefix_code.specs.PropAt.{prop_at}
use Rattle.prop.specs.Ends.{Known}
use Rattle.prop.proofs.Parts.{head_byte, head_byte_lem, BinaryParts, binary_parts, QuantifiedParts, quantified_parts}

-- a number that is below, and a text that was put, by what they equal
pub below_as : {a b n : ℕ} → a ≡ b → b < n → a < n
below_as e h = omega arith

pub put_as : {S : Type 0} (puts : S → List ℕ → S → Type 0) {before after : S} {s t : List ℕ} → s ≡ t → puts before s after → puts before t after
put_as puts {before = before} {after = after} e w = let P : List ℕ → Type 0 = λ text. puts before text after in subst P e w

-- the strength of each byte in front
abbrev pub strengths : List ℕ
strengths = 999 ∷ 999 ∷ 4 ∷ 3 ∷ 2 ∷ 999 ∷ 1 ∷ 1 ∷ []

-- a binary proposition is a negation if it binds as strongly as an atom
negation_strength : (c : Connective) (p q : Prop Name) → eqb (precedence (Binary c p q)) 999 ≡ is_negation c q
unfolding precedence is_negation connective_precedence
negation_strength and p q = refl
negation_strength or p q = refl
negation_strength impl p q = elim (is_false q) as (λ b. eqb (cond b 999 2) 999 ≡ b) [ true ↦ refl | false ↦ refl ]

-- Over any names:
module _ (f : ℕ → Name) where
  -- ⊥ is told by its byte in front, and so is a strength, but for implications
  is_false_lem : (p : Prop ℕ) → is_false (rename_prop f p) ≡ eqb (head_byte p) 1
  unfolding is_false rename_prop encode
  is_false_lem True = refl
  is_false_lem False = refl
  is_false_lem (Binary c p q) = sym (ne_eqb (connective_byte c) 1 (λ e. omega (arith, connective_byte_lem c)))
  is_false_lem (Atom a ps) = refl
  is_false_lem (Quantified q x t p) = sym (ne_eqb (quantifier_byte q) 1 (λ e. omega (arith, quantifier_byte_lem q)))

  strength_by_head : (p : Prop ℕ) → (head_byte p ≡ 4 → ⊥)
      → get_or strengths (head_byte p) 0 ≡ precedence (rename_prop f p)
  unfolding encode rename_prop connective_byte quantifier_byte precedence is_negation connective_precedence
  strength_by_head True h = refl
  strength_by_head False h = refl
  strength_by_head (Binary and p q) h = refl
  strength_by_head (Binary or p q) h = refl
  strength_by_head (Binary impl p q) h = absurd (h refl)
  strength_by_head (Atom a ps) h = refl
  strength_by_head (Quantified for_all x t p) h = refl
  strength_by_head (Quantified exists x t p) h = refl

  module _ (names : ℕ) (l ends : List ℕ) (at : ℕ) where
    -- the proposition at a position
    abbrev named : ℕ → Prop Name
    named i = rename_prop f (prop_at names l i)

    -- where the right side of a binary proposition starts
    abbrev middle : ℕ
    middle = get_or ends (at + 1) 0

    module _ (k : Known names l ends at) where
      -- a proposition that is no implication binds as its byte in front says
      pub strength_elsewhere : (get_or l at 0 ≡ 4 → ⊥) → get_or strengths (get_or l at 0) 0 ≡ precedence (named at)
      strength_elsewhere h =
          let head = head_byte_lem k.present in
          rw head (strength_by_head (prop_at names l at) (λ e. h (head ∙ e)))

      pub strength_of_quantified : 5 < get_or l at 0 → 1 ≡ precedence (named at)
      unfolding rename_prop precedence
      strength_of_quantified h = rw (quantified_parts names l ends at k h).is

      -- an implication binds as the byte in front of its right side says
      pub strength_of_implication : get_or l at 0 ≡ 4 → cond (eqb (get_or l middle 0) 1) 999 2 ≡ precedence (named at)
      unfolding eq_connective connective_byte rename_prop precedence is_negation connective_precedence
      strength_of_implication h =
          let b = binary_parts names l ends at k (omega arith) (omega arith) in
          let implication : b.connective ≡ impl = eq_connective_true (eq-eqb (connective_byte b.connective) 4 (sym b.byte ∙ h)) in
          rw (b.is, implication, head_byte_lem b.right.present) (ap (λ t. cond t 999 2) (sym (is_false_lem (prop_at names l middle))))

    -- a quantified proposition: what stands before its body, and the body
    pub quantified_text : (q : QuantifiedParts names l ends at)
        → (quantifier_text q.quantifier ++ (f (number_at l (at + 1)) ++ (utf8 ":" ++ (f (number_at l (at + 3)) ++ utf8 ". "))))
        ++ display_prop (named (at + 5)) ≡ display_prop (named at)
    unfolding rename_prop display_prop
    quantified_text q = rw q.is (simp append_assoc)

    module _ (b : BinaryParts names l ends at) where
      binary : named at ≡ Binary b.connective (named (at + 1)) (named middle)
      unfolding rename_prop
      binary = ap (rename_prop f) b.is

      negation : is_negation b.connective (named middle) ≡ eqb (precedence (named at)) 999
      negation = rw binary (sym (negation_strength b.connective (named (at + 1)) (named middle)))

      pub negation_text : precedence (named at) ≡ 999
          → utf8 "¬" ++ wrap (ltb (precedence (named (at + 1))) 999) (display_prop (named (at + 1))) ≡ display_prop (named at)
      unfolding display_prop
      negation_text h = rw (binary, negation ∙ eq-eqb _ 999 h)

      pub binary_text : (precedence (named at) ≡ 999 → ⊥)
          → wrap (wraps_left b.connective (precedence (named (at + 1)))) (display_prop (named (at + 1)))
          ++ (connective_text b.connective ++ wrap (wraps_right b.connective (precedence (named middle))) (display_prop (named middle)))
          ≡ display_prop (named at)
      unfolding display_prop
      binary_text h = rw (binary, negation ∙ ne_eqb _ 999 h)
