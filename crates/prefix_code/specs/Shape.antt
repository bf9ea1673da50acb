-- The proposition at a position, taken apart as far as its byte in front and the numbers behind it go.
use Rattle.std.specs.Prelude.{ℕ, ◌+◌, ◌≡◌, List, length, get_or, cond, eqb}
use Rattle.definitions.specs.Sheet.{number_at}
use Rattle.definitions.specs.Prop as proposition
use Rattle.definitions.specs.Prop.{Prop, PropParameter, connective_byte, quantifier_byte}
use Rattle.prefix_code.specs.PropAt.{prop_at, Present}
use Rattle.prefix_code.specs.declared.Connective.{Connective}
use Rattle.prefix_code.specs.declared.Connective.TheVariants.{And, Or, Impl}
use Rattle.prefix_code.specs.declared.Quantifier.{Quantifier}
use Rattle.prefix_code.specs.declared.Quantifier.TheVariants.{ForAll, Exists}
use Rattle.prefix_code.specs.declared.Head.{Head}
use Rattle.prefix_code.specs.declared.ParameterKind.{ParameterKind}
use Rattle.prefix_code.specs.declared.ParameterKind.TheVariants.{Uninstantiated, Instantiated}
use Rattle.prefix_code.specs.declared.Shape.{Shape}
use Rattle.prefix_code.specs.declared.Shape.TheVariants.{True, False, Binary, Atom, Quantified}

-- a proposition stands at a position, with names below some number
pub record SomeProposition (code : List ℕ) (at : ℕ) : Type 0 where
  pub names : ℕ
  pub present : Present names code at

-- the connective that a byte in front stands for
abbrev pub connective_at : ℕ → Connective
connective_at head = cond (eqb head 2) And (cond (eqb head 3) Or Impl)

-- the connective as document 01 names it
abbrev pub meant : Connective → proposition.Connective
meant And = proposition.and
meant Or = proposition.or
meant Impl = proposition.impl

-- the quantifier that a byte in front stands for
abbrev pub quantifier_at : ℕ → Quantifier
quantifier_at head = cond (eqb head 6) ForAll Exists

-- the quantifier as document 01 names it
abbrev pub quantifier_meant : Quantifier → proposition.Quantifier
quantifier_meant ForAll = proposition.for_all
quantifier_meant Exists = proposition.exists

-- the byte of what stands in front
abbrev pub head_byte : Head → ℕ
head_byte Head.True = 0
head_byte Head.False = 1
head_byte (Head.Binary c) = connective_byte (meant c)
head_byte Head.Atom = 5
head_byte (Head.Quantified q) = quantifier_byte (quantifier_meant q)

-- the byte in front of a parameter
abbrev pub kind_byte : ParameterKind → ℕ
kind_byte Uninstantiated = 0
kind_byte Instantiated = 1

-- how many bytes a parameter has
abbrev pub kind_size : ParameterKind → ℕ
kind_size Uninstantiated = 3
kind_size Instantiated = 5

-- what each shape says of the proposition at a position
pub data ShapeOf (names : ℕ) (code : List ℕ) (at : ℕ) : Shape → Type 0 where
  is_true : prop_at names code at ≡ proposition.True → ShapeOf names code at True
  is_false : prop_at names code at ≡ proposition.False → ShapeOf names code at False
  is_binary : {c : proposition.Connective} {right : Prop ℕ}
      → prop_at names code at ≡ proposition.Binary c (prop_at names code (at + 1)) right
      → ShapeOf names code at (Binary (connective_at (connective_byte c)) (at + 1))
  is_atom : {ps : List (PropParameter ℕ)}
      → prop_at names code at ≡ proposition.Atom (number_at code (at + 1)) ps → length ps ≡ get_or code (at + 3) 0
      → ShapeOf names code at (Atom (number_at code (at + 1)) (get_or code (at + 3) 0) (at + 4))
  is_quantified : {q : proposition.Quantifier}
      → prop_at names code at ≡ proposition.Quantified q (number_at code (at + 1)) (number_at code (at + 3)) (prop_at names code (at + 5))
      → ShapeOf names code at (Quantified (quantifier_at (quantifier_byte q)) (number_at code (at + 1)) (number_at code (at + 3)) (at + 5))

-- an implication stands at a position, and its left side at another
abbrev pub ImplicationAt : List ℕ → ℕ → ℕ → Type 0
ImplicationAt code at left = (get_or code at 0 ≡ 4) × (left ≡ at + 1)
