-- What the shape of a proposition tells of its parts and its text.
use Prim.Native.Nat.{ℕ, ◌+◌, ◌<◌}
use mathlib.Core.Path.{◌≡◌, refl, sym, ap, ◌∙◌}
use mathlib.Core.List.{List}
use native.Mathlib.Omega.{arith}
use lib.ListN.{get_or}
use Rattle.definitions.specs.Utf8.{utf8}
use Rattle.definitions.specs.Name.{Name}
use Rattle.definitions.specs.Prop.{PropParameter, for_all, exists, connective_byte, quantifier_byte, rename_prop}
use Rattle.definitions.specs.Code.{encode}
use Rattle.definitions.specs.Sheet.{number_at}
use Rattle.definitions.specs.Display.{display_prop}
use Rattle.prefix_code.proofs.Heads.{connective_byte_lem, quantifier_byte_lem}
use Rattle.prefix_code.proofs.Shapes.{meant_at}
use Rattle.prefix_code.proofs.Forms.{atom_at}
use Rattle.prefix_code.specs.PropAt.{prop_at}
use Rattle.prefix_code.specs.Scan.{Stands, parameters_coding}
use Rattle.prefix_code.specs.Shape.{connective_at, meant, quantifier_at, quantifier_meant, ShapeOf, is_true, is_false, is_binary, is_atom, is_quantified}
use Rattle.prefix_code.specs.declared.Connective.{Connective}
use Rattle.prefix_code.specs.declared.Quantifier.{Quantifier}
use Rattle.prefix_code.specs.declared.Shape.TheVariants.{True, False, Binary, Atom, Quantified}
use Rattle.definitions.specs.Prop as proposition
use Rattle.prop.specs.Ends.{Known}
use Rattle.prop.proofs.Parts.{head_byte, head_byte_lem, BinaryParts, binary_parts, QuantifiedParts, quantified_parts}

meant_quantifier : (q : proposition.Quantifier) → quantifier_meant (quantifier_at (quantifier_byte q)) ≡ q
unfolding quantifier_byte
meant_quantifier for_all = refl
meant_quantifier exists = refl

module _ {names : ℕ} {l : List ℕ} {at : ℕ} where
  pub true_text : (f : ℕ → Name) → ShapeOf names l at True → utf8 "⊤" ≡ display_prop (rename_prop f (prop_at names l at))
  unfolding rename_prop display_prop
  true_text f (is_true is) = rw is refl

  pub false_text : (f : ℕ → Name) → ShapeOf names l at False → utf8 "⊥" ≡ display_prop (rename_prop f (prop_at names l at))
  unfolding rename_prop display_prop
  false_text f (is_false is) = rw is refl

module _ {names : ℕ} {l ends : List ℕ} {at : ℕ} (k : Known names l ends at) where
  -- an atom: its name, and its parameters
  pub record Applied (name count parameters : ℕ) : Type 0 where
    pub list : List (PropParameter ℕ)
    pub is : prop_at names l at ≡ proposition.Atom name list
    pub below : name < names
    pub stands : Stands (parameters_coding names count) l parameters list k.present.rest

  pub applied : {name count parameters : ℕ} → ShapeOf names l at (Atom name count parameters) → Applied name count parameters
  unfolding encode
  applied (is_atom is count) =
      let a = atom_at names l at k.present.rest (prop_at names l at) k.present.stands (head_byte_lem k.present ∙ ap head_byte is) in
      record {
        list = a.parameters;
        is = a.is ∙ ap (λ n. proposition.Atom n a.parameters) (sym a.bytes.name);
        below = omega (arith, a.bytes.name, a.bytes.below);
        stands = a.bytes.parameters;
      }

  -- a binary proposition: its connective, and where its left side stands
  pub record Sides (connective : Connective) (left : ℕ) : Type 0 where
    pub parts : BinaryParts names l ends at
    pub same : meant connective ≡ parts.connective
    pub left_is : left ≡ at + 1

  pub sides : {connective : Connective} {left : ℕ} → ShapeOf names l at (Binary connective left) → Sides connective left
  unfolding encode
  sides (is_binary {c = c} is) =
      let byte : get_or l at 0 ≡ connective_byte c = head_byte_lem k.present ∙ ap head_byte is in
      let bounds = connective_byte_lem c in
      let b = binary_parts names l ends at k (omega arith) (omega arith) in
      record { parts = b; same = ap (λ head. meant (connective_at head)) (sym byte ∙ b.byte) ∙ meant_at b.connective; left_is = refl }

  -- a quantified one: its quantifier and its names, and where its body stands
  pub record Scope (quantifier : Quantifier) (object datatype body : ℕ) : Type 0 where
    pub parts : QuantifiedParts names l ends at
    pub same : quantifier_meant quantifier ≡ parts.quantifier
    pub object_is : object ≡ number_at l (at + 1)
    pub datatype_is : datatype ≡ number_at l (at + 3)
    pub body_is : body ≡ at + 5

  pub scope : {quantifier : Quantifier} {object datatype body : ℕ} → ShapeOf names l at (Quantified quantifier object datatype body)
      → Scope quantifier object datatype body
  unfolding encode
  scope (is_quantified {q = q} is) =
      let byte : get_or l at 0 ≡ quantifier_byte q = head_byte_lem k.present ∙ ap head_byte is in
      let bounds = quantifier_byte_lem q in
      let b = quantified_parts names l ends at k (omega arith) in
      record {
        parts = b;
        same = ap (λ head. quantifier_meant (quantifier_at head)) (sym byte ∙ b.byte) ∙ meant_quantifier b.quantifier;
        object_is = refl;
        datatype_is = refl;
        body_is = refl;
      }
