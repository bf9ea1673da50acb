-- How long the signs of a proposition's text are: connectives, quantifiers and brackets.
use Prim.Native.Nat.{ℕ, ◌+◌, ◌≤◌}
use mathlib.Core.Path.{◌≡◌, refl}
use mathlib.Core.Bool.{Bool, true, false}
use mathlib.Core.List.{List, [], ◌∷◌}
use native.Mathlib.Omega.{arith}
use lib.ListN.{length, length-append}
use Rattle.definitions.specs.Prop.{Connective, and, or, impl, Quantifier, for_all, exists}
use Rattle.definitions.specs.Display.{wrap, connective_text, quantifier_text}

pub connective_length : (c : Connective) → length (connective_text c) ≡ 5
unfolding connective_text
connective_length and = refl
connective_length or = refl
connective_length impl = refl

pub quantifier_length : (q : Quantifier) → length (quantifier_text q) ≡ 3
unfolding quantifier_text
quantifier_length for_all = refl
quantifier_length exists = refl

-- brackets are two bytes at most
pub wrap_most : (b : Bool) (t : List ℕ) → length (wrap b t) ≤ 2 + length t
unfolding wrap
wrap_most true t = omega (arith, length-append t (41 ∷ []))
wrap_most false t = omega arith
