-- The connective that a byte in front stands for, and the connective of what stands and of what is made.
use Prim.Native.Nat.{ℕ, ◌+◌, ◌-◌, ◌≤◌, ◌<◌}
use mathlib.Core.Path.{◌≡◌, refl, sym, ap, ◌∙◌}
use mathlib.Core.Logic.{by_cases}
use mathlib.Core.List.{List}
use native.Mathlib.Omega.{arith}
use native.Mathlib.Decide.{ℕ_discrete}
use lib.ListN.{get_or}
use borrow.Author.Tests.{lt-ltb, le-ltb, ne_eqb}
use Rattle.std.specs.Prelude.{Option, None, Some}
use Rattle.std.proofs.lemmas.Option.{same_Some}
use Rattle.definitions.specs.Prop.{connective_byte, quantifier_byte}
use Rattle.prefix_code.specs.Shape.{meant, head_byte}
use Rattle.prefix_code.specs.declared.Connective.{Connective}
use Rattle.prefix_code.specs.declared.Connective.TheVariants.{And, Or, Impl}
use Rattle.prefix_code.specs.declared.Quantifier.TheVariants.{ForAll, Exists}
use Rattle.prefix_code.specs.declared.Head.{Head}
use Rattle.prefix_code.specs.declared.Head.TheVariants.{True, False, Binary, Atom, Quantified}
use Rattle.prop_numbers.specs.declared.Made.{Made}
use Rattle.prop_numbers.specs.Standing.{slot, standing, in_front, connective_of}

pub front_of : (c : Connective) → in_front (connective_byte (meant c)) ≡ Some c
unfolding in_front connective_byte
front_of And = refl
front_of Or = refl
front_of Impl = refl

no_front : {b : ℕ} → (b ≡ 2 → ⊥) → (b ≡ 3 → ⊥) → (b ≡ 4 → ⊥) → in_front b ≡ None
unfolding in_front
no_front {b} two three four = rw (ne_eqb b 2 two, ne_eqb b 3 three, ne_eqb b 4 four)

pub front_byte : {b : ℕ} (c : Connective) → in_front b ≡ Some c → b ≡ connective_byte (meant c)
unfolding in_front connective_byte
front_byte {b} c is = by_cases (ℕ_discrete b 2)
    (λ e. let same : And ≡ c = same_Some And c (sym (ap in_front e) ∙ is) in rw (← same) e)
    (λ two. by_cases (ℕ_discrete b 3)
    (λ e. let same : Or ≡ c = same_Some Or c (sym (ap in_front e) ∙ is) in rw (← same) e)
    (λ three. by_cases (ℕ_discrete b 4)
    (λ e. let same : Impl ≡ c = same_Some Impl c (sym (ap in_front e) ∙ is) in rw (← same) e)
    (λ four. let none = no_front two three four in cc)))

pub binary_front : {b : ℕ} {h : Head} (c : Connective) → b ≡ head_byte h → h ≡ Binary c → in_front b ≡ Some c
binary_front c is e = ap in_front (is ∙ ap head_byte e) ∙ front_of c

-- no other head, and no byte past the heads, is a connective's
pub other_front : {b : ℕ} (h : Head) → b ≡ head_byte h → ((c : Connective) → h ≡ Binary c → ⊥) → in_front b ≡ None
unfolding in_front quantifier_byte
other_front True e other = rw e
other_front False e other = rw e
other_front (Binary c) e other = absurd (other c refl)
other_front Atom e other = rw e
other_front (Quantified ForAll) e other = rw e
other_front (Quantified Exists) e other = rw e

pub past_front : {b : ℕ} → 8 ≤ b → in_front b ≡ None
past_front {b} h = no_front (λ e. omega arith) (λ e. omega arith) (λ e. omega arith)

module _ (code : List ℕ) (mades : List Made) where
  pub connective_stands : (p : ℕ) → p < standing → connective_of code mades p ≡ in_front (get_or code p 0)
  unfolding connective_of
  connective_stands p low = rw (lt-ltb p standing low)

  pub connective_made : (k : ℕ) → connective_of code mades (standing + k) ≡ (slot mades k).connective
  unfolding connective_of
  connective_made k = let that : standing + k - standing ≡ k = omega arith in rw (le-ltb (standing + k) standing (omega arith), that)

  -- the byte in front of one that stands
  pub byte_of : {p : ℕ} (c : Connective) → p < standing → connective_of code mades p ≡ Some c → get_or code p 0 ≡ connective_byte (meant c)
  byte_of {p} c low is = front_byte c (sym (connective_stands p low) ∙ is)

-- a connective is the one that is asked for, or not
pub dec_connective : (o : Option Connective) (c : Connective) → Dec (o ≡ Some c)
dec_connective None c = no (λ e. cc)
dec_connective (Some And) And = yes refl
dec_connective (Some And) Or = no (λ e. cc)
dec_connective (Some And) Impl = no (λ e. cc)
dec_connective (Some Or) And = no (λ e. cc)
dec_connective (Some Or) Or = yes refl
dec_connective (Some Or) Impl = no (λ e. cc)
dec_connective (Some Impl) And = no (λ e. cc)
dec_connective (Some Impl) Or = no (λ e. cc)
dec_connective (Some Impl) Impl = yes refl
