-- What the bytes and the table tell of the proposition at a position: its byte in front, and where its parts stand, with their ends.
use Prim.Native.Nat.{ℕ, ◌+◌, ◌≤◌, ◌<◌}
use mathlib.Core.Path.{◌≡◌, sym, ap, ◌∙◌}
use mathlib.Core.Logic.{by_cases}
use mathlib.Core.List.{List, ◌++◌}
use native.Mathlib.Omega.{arith}
use native.Mathlib.Decide.{dec_lt}
use lib.ListN.{length, get_or, get_or-append, get_or-eq_default}
use lib.Seq.{get_or-drop}
use Rattle.definitions.specs.Prop.{Prop, True, False, Binary, Atom, Quantified, Connective, connective_byte, Quantifier, quantifier_byte}
use Rattle.definitions.specs.Code.{encode}
use Rattle.definitions.specs.Sheet.{number_at}
use Rattle.definitions.proofs.PrefixCode.{code_nonempty}
use Rattle.prefix_code.specs.Scan.{Stands, At}
use Rattle.prefix_code.proofs.Forms.{binary_at, quantified_at}
use Rattle.prefix_code.specs.PropAt.{prop_at, Present}
use Rattle.prop.specs.Ends.{EndAt, EndsOf, Known}
use Rattle.prefix_code.proofs.Reading.{prop_at_lem, present}

-- the byte in front of a proposition's code
abbrev pub head_byte : Prop ℕ → ℕ
head_byte p = get_or (encode p) 0 0

-- the byte at the position of a proposition
pub head_byte_lem : {names : ℕ} {l : List ℕ} {at : ℕ} → Present names l at → get_or l at 0 ≡ head_byte (prop_at names l at)
unfolding Stands
head_byte_lem {names} {l} {at} h =
    let p = prop_at names l at in
    let here : at + 0 ≡ at = omega arith in
    sym (rw here at (get_or-drop at l 0 0)) ∙ ap (λ s. get_or s 0 0) h.stands.1 ∙ get_or-append (encode p) h.rest 0 0 (code_nonempty p)

-- the table has the end of the proposition itself
pub own_end : (ends : List ℕ) (at : ℕ) (p : Prop ℕ) → EndsOf ends at p → EndAt ends at p
unfolding EndsOf
own_end ends at True e = e
own_end ends at False e = e
own_end ends at (Binary c p q) e = e.0
own_end ends at (Atom a ps) e = e
own_end ends at (Quantified q x t p) e = e.0

-- an entry that is not 0 lies within the table
entry_inside : (ends : List ℕ) (i : ℕ) → 0 < get_or ends i 0 → i < length ends
entry_inside ends i h = by_cases (dec_lt i (length ends))
    (λ k. k)
    (λ k. absurd (omega (arith, get_or-eq_default ends 0 {n = i} (omega arith))))

module _ (names : ℕ) (l ends : List ℕ) where
  known_part : (i : ℕ) (p : Prop ℕ) (rest : List ℕ) → At names l i p rest → EndsOf ends i p → Known names l ends i
  known_part i p rest s e = record { present = present names l i p rest s; ends = rw (prop_at_lem names l i p rest s) e }

  module _ (at : ℕ) where
    -- a binary proposition: its left side follows the byte in front, and its right side starts where the left one ends
    pub record BinaryParts : Type 0 where
      pub connective : Connective
      pub byte : get_or l at 0 ≡ connective_byte connective
      pub is : prop_at names l at ≡ Binary connective (prop_at names l (at + 1)) (prop_at names l (get_or ends (at + 1) 0))
      pub left : Known names l ends (at + 1)
      pub right : Known names l ends (get_or ends (at + 1) 0)
      pub table : at + 1 < length ends
      pub order : at + 1 < get_or ends (at + 1) 0

    -- a quantified one: object, datatype, body
    pub record QuantifiedParts : Type 0 where
      pub quantifier : Quantifier
      pub byte : get_or l at 0 ≡ quantifier_byte quantifier
      pub is : prop_at names l at ≡ Quantified quantifier (number_at l (at + 1)) (number_at l (at + 3)) (prop_at names l (at + 5))
      pub object : number_at l (at + 1) < names
      pub datatype : number_at l (at + 3) < names
      pub body : Known names l ends (at + 5)

    module _ (k : Known names l ends at) where
      pub binary_parts : 2 ≤ get_or l at 0 → get_or l at 0 < 5 → BinaryParts
      unfolding EndsOf
      binary_parts low high =
          let b = binary_at names l at k.present.rest (prop_at names l at) k.present.stands low high in
          let ends_of : EndsOf ends at (Binary b.connective b.left b.right) = rw b.is at k.ends in
          let middle : get_or ends (at + 1) 0 ≡ at + 1 + length (encode b.left) = own_end ends (at + 1) b.left ends_of.1 in
          let long = code_nonempty b.left in
          let left_is = prop_at_lem names l (at + 1) b.left (encode b.right ++ k.present.rest) b.left_at in
          let right_is = prop_at_lem names l (at + 1 + length (encode b.left)) b.right k.present.rest b.right_at in
          record {
            connective = b.connective;
            byte = b.byte;
            is = rw (middle, left_is, right_is) b.is;
            left = known_part (at + 1) b.left (encode b.right ++ k.present.rest) b.left_at ends_of.1;
            right = rw middle (known_part (at + 1 + length (encode b.left)) b.right k.present.rest b.right_at ends_of.2);
            table = entry_inside ends (at + 1) (omega arith);
            order = omega arith;
          }

      pub quantified_parts : 5 < get_or l at 0 → QuantifiedParts
      unfolding EndsOf
      quantified_parts low =
          let q = quantified_at names l at k.present.rest (prop_at names l at) k.present.stands low in
          let ends_of : EndsOf ends at (Quantified q.quantifier q.object q.datatype q.body) = rw q.is at k.ends in
          let body_is = prop_at_lem names l (at + 5) q.body k.present.rest q.body_at in
          record {
            quantifier = q.quantifier;
            byte = q.bytes.byte;
            is = rw (q.bytes.object, q.bytes.datatype, body_is) q.is;
            object = rw q.bytes.object q.bytes.object_below;
            datatype = rw q.bytes.datatype q.bytes.datatype_below;
            body = known_part (at + 5) q.body k.present.rest q.body_at ends_of.1;
          }
