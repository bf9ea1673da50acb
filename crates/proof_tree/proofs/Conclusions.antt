-- The label that a proposition gives, by its shape.
use Prim.Native.Nat.{ℕ, ◌+◌, ◌<◌}
use mathlib.Core.Path.{◌≡◌, refl}
use mathlib.Core.List.{List}
use native.Mathlib.Omega.{arith}
use lib.ListN.{length}
use Rattle.definitions.specs.Outcome.{accepted, refuse}
use Rattle.definitions.specs.Prop.{as_binary, as_quantified, and, or, impl, for_all, exists, connective_byte, quantifier_byte, eq_connective, eq_quantifier}
use Rattle.definitions.specs.Sheet.{number_at}
use Rattle.definitions.specs.Term.{proposition, datatype}
use Rattle.definitions.specs.Tree.{PropIsTrue}
use Rattle.definitions.specs.Export.{implication_label, left_label, universal_label, datatype_label}
use Rattle.definitions.proofs.PrefixCode.{Bytes}
use Rattle.prefix_code.specs.declared.Connective.{Connective}
use Rattle.prefix_code.specs.declared.Connective.TheVariants.{Impl}
use Rattle.prefix_code.specs.declared.Quantifier.{Quantifier}
use Rattle.prefix_code.specs.declared.Quantifier.TheVariants.{ForAll}
use Rattle.prefix_code.specs.declared.Shape.{Shape}
use Rattle.prefix_code.specs.declared.Shape.TheVariants.{Binary, Quantified}
use Rattle.prefix_code.specs.PropAt.{prop_at, Present}
use Rattle.prefix_code.specs.Shape.{ShapeOf, is_true, is_false, is_binary, is_atom, is_quantified}
use Rattle.prefix_code.proofs.Reading.{inside}

-- the shape that was read at an offset
pub shaped : {names : ℕ} {code : List ℕ} {at offset : ℕ} {s t : Shape} → at ≡ offset → Present names code offset
    → ((names : ℕ) → Present names code at → ShapeOf names code at s) → s ≡ t → ShapeOf names code offset t
shaped {names} is here shape same = rw (is, same) at (shape names (rw is here))

-- the left side of an implication and the datatype of a ∀ are numbers that fit a u16
module _ {names : ℕ} {code : List ℕ} {at : ℕ} where
  pub left_fits : {connective : Connective} {left : ℕ} → Present names code at → length code < 65536 → ShapeOf names code at (Binary connective left) → left < 65536
  left_fits here short (is_binary is) = omega (arith, (inside here).start)

  pub datatype_fits : {quantifier : Quantifier} {object d body : ℕ} → Bytes code → ShapeOf names code at (Quantified quantifier object d body) → d < 65536
  unfolding number_at
  datatype_fits bytes (is_quantified is) = omega (arith, bytes (at + 3), bytes (at + 3 + 1))

module _ {names : ℕ} {code : List ℕ} {at : ℕ} (k : ℕ) where
  -- an implication gives its left side
  pub implication_label_lem : {connective : Connective} {left : ℕ} → ShapeOf names code at (Binary connective left) → connective ≡ Impl
      → left_label k (PropIsTrue (prop_at names code at)) ≡ accepted (proposition (prop_at names code left))
  unfolding left_label implication_label as_binary eq_connective connective_byte
  implication_label_lem (is_binary {c = and} is) same = cc
  implication_label_lem (is_binary {c = or} is) same = cc
  implication_label_lem (is_binary {c = impl} is) same = rw is

  pub no_implication : {s : Shape} → ShapeOf names code at s → ((left : ℕ) → s ≡ Binary Impl left → ⊥)
      → left_label k (PropIsTrue (prop_at names code at)) ≡ refuse 14 k
  unfolding left_label implication_label as_binary eq_connective connective_byte
  no_implication (is_true is) other = rw is
  no_implication (is_false is) other = rw is
  no_implication (is_binary {c = and} is) other = rw is
  no_implication (is_binary {c = or} is) other = rw is
  no_implication (is_binary {c = impl} is) other = absurd (other _ refl)
  no_implication (is_atom is count) other = rw is
  no_implication (is_quantified is) other = rw is

  -- a ∀ gives its datatype
  pub universal_label_lem : {quantifier : Quantifier} {object d body : ℕ} → ShapeOf names code at (Quantified quantifier object d body) → quantifier ≡ ForAll
      → datatype_label k (PropIsTrue (prop_at names code at)) ≡ accepted (datatype d)
  unfolding datatype_label universal_label as_quantified eq_quantifier quantifier_byte
  universal_label_lem (is_quantified {q = for_all} is) same = rw is
  universal_label_lem (is_quantified {q = exists} is) same = cc

  pub no_universal : {s : Shape} → ShapeOf names code at s → ((object d body : ℕ) → s ≡ Quantified ForAll object d body → ⊥)
      → datatype_label k (PropIsTrue (prop_at names code at)) ≡ refuse 15 k
  unfolding datatype_label universal_label as_quantified eq_quantifier quantifier_byte
  no_universal (is_true is) other = rw is
  no_universal (is_false is) other = rw is
  no_universal (is_binary is) other = rw is
  no_universal (is_atom is count) other = rw is
  no_universal (is_quantified {q = for_all} is) other = absurd (other _ _ _ refl)
  no_universal (is_quantified {q = exists} is) other = rw is
