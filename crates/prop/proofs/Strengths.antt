-- How strongly a proposition binds, by the head that its byte in front stands for.
use Prim.Native.Nat.{ℕ}
use mathlib.Core.Path.{◌≡◌, refl, sym, ◌∙◌}
use mathlib.Core.Bool.{true, false}
use mathlib.Core.List.{List}
use mathlib.Core.Logic.{◌⊎◌, inl, inr}
use native.Mathlib.Omega.{arith}
use lib.ListN.{get_or}
use lib.Dec.{eqb}
use borrow.Author.Tests.{ne_eqb}
use Rattle.definitions.specs.Name.{Name}
use Rattle.definitions.specs.Prop.{connective_byte, rename_prop}
use Rattle.definitions.specs.Display.{connective_precedence, precedence}
use Rattle.prefix_code.specs.PropAt.{prop_at}
use Rattle.prefix_code.specs.Shape.{meant, quantifier_meant, head_byte}
use Rattle.prefix_code.specs.declared.Connective.{Connective}
use Rattle.prefix_code.specs.declared.Connective.TheVariants.{And, Or, Impl}
use Rattle.prefix_code.specs.declared.Head.{Head}
use Rattle.prefix_code.specs.declared.Head.TheVariants.{True, False, Binary, Atom, Quantified}
use Rattle.prefix_code.specs.contracts.HeadPartialEq.TheImpl.{eq-value}
use Rattle.prefix_code.proofs.Heads.{connective_byte_lem, quantifier_byte_lem}
use Rattle.prefix_code.proofs.Fronts.{front_byte}
use Rattle.prop.specs.Ends.{Known}
use Rattle.prop.proofs.Shown.{strengths, strength_elsewhere}

-- ⊥ is told by its byte
pub is_bottom : (b : ℕ) (head : Head) → b ≡ head_byte head → eq-value.it head False ≡ eqb b 1
is_bottom b True is = rw is refl
is_bottom b False is = rw is refl
is_bottom b (Binary c) is = sym (ne_eqb b 1 (λ e. omega (arith, is, connective_byte_lem (meant c))))
is_bottom b Atom is = rw is refl
is_bottom b (Quantified q) is = sym (ne_eqb b 1 (λ e. omega (arith, is, quantifier_byte_lem (quantifier_meant q))))

-- an implication is told by its head
pub is_implication : (h : Head) → eq-value.it h (Binary Impl) ≡ true → head_byte h ≡ 4
unfolding connective_byte
is_implication True e = cc
is_implication False e = cc
is_implication (Binary And) e = cc
is_implication (Binary Or) e = cc
is_implication (Binary Impl) e = refl
is_implication Atom e = cc
is_implication (Quantified q) e = cc

-- Of the proposition at a position, over any names:
module _ (f : ℕ → Name) (names : ℕ) (l ends : List ℕ) (at : ℕ) (k : Known names l ends at) where
  abbrev strength : ℕ
  strength = precedence (rename_prop f (prop_at names l at))

  -- what its byte says, by the table
  by_byte : {b : ℕ} → get_or l at 0 ≡ b → (b ≡ 4 → ⊥) → get_or strengths b 0 ≡ strength
  by_byte byte other = rw byte at (strength_elsewhere f names l ends at k (λ e. other (sym byte ∙ e)))

  module _ {h : Head} (is : get_or l at 0 ≡ head_byte h) where
    pub strength_of_leaf : (h ≡ True) ⊎ ((h ≡ False) ⊎ (h ≡ Atom)) → 999 ≡ strength
    strength_of_leaf (inl same) = by_byte {b = 0} (front_byte is same) (λ e. omega arith)
    strength_of_leaf (inr (inl same)) = by_byte {b = 1} (front_byte is same) (λ e. omega arith)
    strength_of_leaf (inr (inr same)) = by_byte {b = 5} (front_byte is same) (λ e. omega arith)

    -- a connective that is no implication
    pub strength_of_connective : (c : Connective) → h ≡ Binary c → eq-value.it h (Binary Impl) ≡ false → connective_precedence (meant c) ≡ strength
    unfolding connective_byte connective_precedence
    strength_of_connective And same other = by_byte {b = 2} (front_byte is same) (λ e. omega arith)
    strength_of_connective Or same other = by_byte {b = 3} (front_byte is same) (λ e. omega arith)
    strength_of_connective Impl same other = let both : eq-value.it h (Binary Impl) ≡ true = rw same refl in cc
