-- What a proposition keeps over other names: how deep it nests, whether it is free of quantifiers, and how long its code is.
use Prim.Native.Nat.{ℕ, ◌+◌, ◌*◌, ◌≤◌, ◌<◌}
use mathlib.Core.Path.{◌≡◌, refl, sym, ◌∙◌}
use mathlib.Core.List.{List, [], ◌∷◌, map}
use native.Mathlib.Omega.{arith}
use lib.ListN.{length, length-append}
use Rattle.definitions.specs.Prop.{Prop, True, False, Binary, Atom, Quantified, PropParameter, Uninstantiated, Instantiated, nesting, rename_parameter, rename_prop}
use Rattle.definitions.specs.Sound.{all_instantiated, is_quantifier_free}
use Rattle.definitions.specs.Code.{u16, encode, encode_parameter, encode_parameters}

module _ {N : Type 0} where
  pub nests : (p : Prop N) → 0 < nesting p
  unfolding nesting
  nests True = omega arith
  nests False = omega arith
  nests (Binary c p q) = omega arith
  nests (Atom a ps) = omega arith
  nests (Quantified q x t p) = omega arith

  -- how many bytes of code the shape of a proposition asks for
  unfoldable parameters_size : List (PropParameter N) → ℕ
  parameters_size [] = 0
  parameters_size (Uninstantiated x ∷ ps) = 3 + parameters_size ps
  parameters_size (Instantiated x i ∷ ps) = 5 + parameters_size ps

  unfoldable size : Prop N → ℕ
  size True = 1
  size False = 1
  size (Binary c p q) = 1 + (size p + size q)
  size (Atom a ps) = 4 + parameters_size ps
  size (Quantified q x t p) = 5 + size p

module _ {N M : Type 0} (f : N → M) where
  pub nesting_same : (p : Prop N) → nesting (rename_prop f p) ≡ nesting p
  unfolding nesting rename_prop
  nesting_same True = refl
  nesting_same False = refl
  nesting_same (Binary c p q) = rw (nesting_same p, nesting_same q)
  nesting_same (Atom a ps) = refl
  nesting_same (Quantified q x t p) = rw (nesting_same p)

  instantiated_same : (ps : List (PropParameter N)) → all_instantiated (map (rename_parameter f) ps) ≡ all_instantiated ps
  unfolding all_instantiated rename_parameter
  instantiated_same [] = refl
  instantiated_same (Uninstantiated x ∷ ps) = refl
  instantiated_same (Instantiated x i ∷ ps) = instantiated_same ps

  pub quantifier_free_same : (p : Prop N) → is_quantifier_free (rename_prop f p) ≡ is_quantifier_free p
  unfolding is_quantifier_free rename_prop
  quantifier_free_same True = refl
  quantifier_free_same False = refl
  quantifier_free_same (Binary c p q) = rw (quantifier_free_same p, quantifier_free_same q)
  quantifier_free_same (Atom a ps) = instantiated_same ps
  quantifier_free_same (Quantified q x t p) = refl

  parameters_size_same : (ps : List (PropParameter N)) → parameters_size (map (rename_parameter f) ps) ≡ parameters_size ps
  unfolding parameters_size rename_parameter
  parameters_size_same [] = refl
  parameters_size_same (Uninstantiated x ∷ ps) = rw (parameters_size_same ps)
  parameters_size_same (Instantiated x i ∷ ps) = rw (parameters_size_same ps)

  size_same : (p : Prop N) → size (rename_prop f p) ≡ size p
  unfolding size rename_prop
  size_same True = refl
  size_same False = refl
  size_same (Binary c p q) = rw (size_same p, size_same q)
  size_same (Atom a ps) = rw (parameters_size_same ps)
  size_same (Quantified q x t p) = rw (size_same p)

length_parameters : (ps : List (PropParameter ℕ)) → length (encode_parameters ps) ≡ parameters_size ps
unfolding encode_parameters encode_parameter parameters_size u16
length_parameters [] = refl
length_parameters (Uninstantiated x ∷ ps) = omega (arith, length_parameters ps)
length_parameters (Instantiated x i ∷ ps) = omega (arith, length_parameters ps)

length_encode : (p : Prop ℕ) → length (encode p) ≡ size p
unfolding encode size u16
length_encode True = refl
length_encode False = refl
length_encode (Binary c p q) = omega (arith, length-append (encode p) (encode q), length_encode p, length_encode q)
length_encode (Atom a ps) = omega (arith, length_parameters ps)
length_encode (Quantified q x t p) = omega (arith, length_encode p)

-- each level but the innermost takes at least two bytes
pub two_bytes_a_level : (p : Prop ℕ) → 2 * nesting p ≤ length (encode p) + 1
unfolding nesting encode u16
two_bytes_a_level True = omega arith
two_bytes_a_level False = omega arith
two_bytes_a_level (Binary c p q) = omega (arith, length-append (encode p) (encode q), two_bytes_a_level p, two_bytes_a_level q, nests p, nests q)
two_bytes_a_level (Atom a ps) = omega arith
two_bytes_a_level (Quantified q x t p) = omega (arith, two_bytes_a_level p)

-- so a code has a byte in front
pub code_nonempty : (p : Prop ℕ) → 0 < length (encode p)
code_nonempty p = omega (arith, nests p, two_bytes_a_level p)

-- over other names a code is as long
pub length_renamed : (f : ℕ → ℕ) (p : Prop ℕ) → length (encode (rename_prop f p)) ≡ length (encode p)
length_renamed f p = length_encode (rename_prop f p) ∙ (size_same f p ∙ sym (length_encode p))

-- two ways of numbering give codes of one length
module _ {N : Type 0} (f g : N → ℕ) where
  pub parameters_length_same : (ps : List (PropParameter N))
      → length (encode_parameters (map (rename_parameter f) ps)) ≡ length (encode_parameters (map (rename_parameter g) ps))
  parameters_length_same ps =
      length_parameters (map (rename_parameter f) ps)
      ∙ (parameters_size_same f ps ∙ sym (length_parameters (map (rename_parameter g) ps) ∙ parameters_size_same g ps))

  pub length_same : (p : Prop N) → length (encode (rename_prop f p)) ≡ length (encode (rename_prop g p))
  length_same p =
      length_encode (rename_prop f p) ∙ (size_same f p ∙ sym (length_encode (rename_prop g p) ∙ size_same g p))

-- and so does a numbering of other names
pub length_twice : {N : Type 0} (f : ℕ → N) (g : N → ℕ) (p : Prop ℕ) → length (encode (rename_prop g (rename_prop f p))) ≡ length (encode p)
length_twice f g p =
    length_encode (rename_prop g (rename_prop f p))
    ∙ (size_same g (rename_prop f p) ∙ (size_same f p ∙ sym (length_encode p)))
