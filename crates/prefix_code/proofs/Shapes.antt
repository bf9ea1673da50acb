-- What the byte in front says of the proposition at a position: its shape, and how far its numbers reach.
use Prim.Native.Nat.{ℕ, ◌+◌, ◌≤◌, ◌<◌}
use mathlib.Core.Path.{◌≡◌, refl, sym}
use mathlib.Core.List.{List, ◌++◌}
use mathlib.Core.Logic.{by_cases}
use native.Mathlib.Omega.{arith}
use native.Mathlib.Decide.{dec_lt}
use lib.ListN.{length, get_or}
use Rattle.definitions.specs.Sheet.{number_at}
use Rattle.definitions.specs.Prop as proposition
use Rattle.definitions.specs.Prop.{Prop, Connective, and, or, impl, connective_byte}
use Rattle.definitions.specs.Code.{encode}
use Rattle.prefix_code.specs.Scan.{Stands}
use Rattle.prefix_code.specs.PropAt.{prop_at, Present}
use Rattle.prefix_code.specs.Shape.{connective_at, meant, quantifier_at, ImplicationAt, ShapeOf, is_true, is_false, is_binary, is_atom, is_quantified}
use Rattle.prefix_code.specs.declared.Connective.TheVariants.{Impl}
use Rattle.prefix_code.specs.declared.Shape.{Shape}
use Rattle.prefix_code.specs.declared.Shape.TheVariants.{True, False, Binary, Atom, Quantified}
use Rattle.prefix_code.proofs.Positions.{byte_at}
use Rattle.prefix_code.proofs.Forms.{AtomAt, QuantifiedAt, true_at, false_at, binary_at, atom_at, quantified_at}
use Rattle.prefix_code.proofs.Reading.{prop_at_lem, present}

module _ {names : ℕ} {l : List ℕ} {at : ℕ} (h : Present names l at) where
  atom_here : get_or l at 0 ≡ 5 → AtomAt names l at h.rest (prop_at names l at)
  atom_here e = atom_at names l at h.rest (prop_at names l at) h.stands e

  quantified_here : 5 < get_or l at 0 → QuantifiedAt names l at h.rest (prop_at names l at)
  quantified_here low = quantified_at names l at h.rest (prop_at names l at) h.stands low

  -- a name stands behind the byte of an atom or a quantifier, and two behind that of a quantifier
  pub one_name : 5 ≤ get_or l at 0 → at + 4 ≤ length l
  one_name low = by_cases (dec_lt 5 (get_or l at 0))
      (λ more. omega (arith, (quantified_here more).bytes.inside))
      (λ no. (atom_here (omega arith)).bytes.inside)

  pub two_names : 5 < get_or l at 0 → at + 5 ≤ length l
  two_names low = (quantified_here low).bytes.inside

  pub true_shape : get_or l at 0 ≡ 0 → ShapeOf names l at True
  true_shape e = is_true (true_at names l at h.rest (prop_at names l at) h.stands e)

  pub false_shape : get_or l at 0 ≡ 1 → ShapeOf names l at False
  false_shape e = is_false (false_at names l at h.rest (prop_at names l at) h.stands e)

  pub binary_shape : 2 ≤ get_or l at 0 → get_or l at 0 < 5 → ShapeOf names l at (Binary (connective_at (get_or l at 0)) (at + 1))
  binary_shape low high =
      let b = binary_at names l at h.rest (prop_at names l at) h.stands low high in
      let left = prop_at_lem names l (at + 1) b.left (encode b.right ++ h.rest) b.left_at in
      rw b.byte (is_binary {c = b.connective} {right = b.right} (rw left b.is))

  pub atom_shape : get_or l at 0 ≡ 5 → ShapeOf names l at (Atom (number_at l (at + 1)) (get_or l (at + 3) 0) (at + 4))
  atom_shape e =
      let a = atom_here e in
      is_atom {ps = a.parameters} (rw a.bytes.name a.is) (sym a.bytes.count)

  pub quantified_shape : 5 < get_or l at 0 → ShapeOf names l at (Quantified (quantifier_at (get_or l at 0)) (number_at l (at + 1)) (number_at l (at + 3)) (at + 5))
  quantified_shape low =
      let q = quantified_here low in
      let body = prop_at_lem names l (at + 5) q.body h.rest q.body_at in
      rw q.bytes.byte (is_quantified {q = q.quantifier} (rw (q.bytes.object, q.bytes.datatype, body) q.is))

  -- the byte in front of a binary proposition is its connective's
  binary_byte : {c : Connective} {p q : Prop ℕ} → prop_at names l at ≡ proposition.Binary c p q → get_or l at 0 ≡ connective_byte c
  unfolding Stands encode
  binary_byte {c} is = (byte_at l at (at + 1) (connective_byte c) _ (omega arith) (rw is at h.stands.1)).value

  implies : {s : Shape} {left : ℕ} → ShapeOf names l at s → s ≡ Binary Impl left → ImplicationAt l at left
  unfolding connective_byte
  implies (is_binary {c = and} is) same = cc
  implies (is_binary {c = or} is) same = cc
  implies (is_binary {c = impl} is) same = (binary_byte is, cc)
  implies (is_true is) same = cc
  implies (is_false is) same = cc
  implies (is_atom is count) same = cc
  implies (is_quantified is) same = cc

  -- an implication's shape says where its left side stands
  pub implication_at : {left : ℕ} → ShapeOf names l at (Binary Impl left) → ImplicationAt l at left
  implication_at shape = implies shape refl

  pub left_present : {left : ℕ} → ImplicationAt l at left → Present names l left
  left_present (byte, after) =
      let b = binary_at names l at h.rest (prop_at names l at) h.stands (omega arith) (omega arith) in
      rw after (present names l (at + 1) b.left _ b.left_at)

-- the byte of a connective stands for that connective
pub meant_at : (c : Connective) → meant (connective_at (connective_byte c)) ≡ c
unfolding connective_byte
meant_at and = refl
meant_at or = refl
meant_at impl = refl
