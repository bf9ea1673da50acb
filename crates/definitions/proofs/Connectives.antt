-- Equal bytes stand for equal connectives and equal quantifiers: each is what its byte says.
use Prim.Native.Nat.{ℕ}
use mathlib.Core.Path.{◌≡◌, refl, sym, ◌∙◌, ap}
use mathlib.Core.Bool.{true, cond}
use lib.Dec.{eqb}
use borrow.Author.Tests.{eqb-true, eq-eqb}
use Rattle.definitions.specs.Prop.{Connective, and, or, impl, connective_byte, eq_connective, Quantifier, for_all, exists, quantifier_byte, eq_quantifier}

-- a code that can be read back tells its elements apart
decoded : {A : Type 0} (code : A → ℕ) (decode : ℕ → A) → ((a : A) → decode (code a) ≡ a)
    → (a b : A) → eqb (code a) (code b) ≡ true → a ≡ b
decoded code decode back a b e = sym (back a) ∙ (ap decode (eqb-true (code a) (code b) e) ∙ back b)

-- the connective and the quantifier that a byte stands for
byte_connective : ℕ → Connective
byte_connective b = cond (eqb b 2) and (cond (eqb b 3) or impl)

byte_quantifier : ℕ → Quantifier
byte_quantifier b = cond (eqb b 6) for_all exists

byte_connective_back : (c : Connective) → byte_connective (connective_byte c) ≡ c
unfolding connective_byte byte_connective
byte_connective_back and = refl
byte_connective_back or = refl
byte_connective_back impl = refl

byte_quantifier_back : (q : Quantifier) → byte_quantifier (quantifier_byte q) ≡ q
unfolding quantifier_byte byte_quantifier
byte_quantifier_back for_all = refl
byte_quantifier_back exists = refl

pub eq_connective_true : {c d : Connective} → eq_connective c d ≡ true → c ≡ d
unfolding eq_connective
eq_connective_true {c} {d} e = decoded connective_byte byte_connective byte_connective_back c d e

pub eq_connective_of_eq : {c d : Connective} → c ≡ d → eq_connective c d ≡ true
unfolding eq_connective
eq_connective_of_eq {c} {d} e = eq-eqb (connective_byte c) (connective_byte d) (ap connective_byte e)

pub eq_quantifier_true : {q r : Quantifier} → eq_quantifier q r ≡ true → q ≡ r
unfolding eq_quantifier
eq_quantifier_true {q} {r} e = decoded quantifier_byte byte_quantifier byte_quantifier_back q r e

pub eq_quantifier_of_eq : {q r : Quantifier} → q ≡ r → eq_quantifier q r ≡ true
unfolding eq_quantifier
eq_quantifier_of_eq {q} {r} e = eq-eqb (quantifier_byte q) (quantifier_byte r) (ap quantifier_byte e)
