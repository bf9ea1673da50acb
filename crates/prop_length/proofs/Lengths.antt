-- The length of a proposition's text by its parts, and a bound by the length of its code.
use Prim.Native.Nat.{ℕ, ◌+◌, ◌*◌, ◌≤◌, ◌<◌}
use mathlib.Core.Path.{◌≡◌, refl}
use mathlib.Core.Bool.{Bool, true, false, cond}
use mathlib.Core.List.{List, [], ◌∷◌, ◌++◌, map}
use native.Mathlib.Omega.{arith}
use lib.ListN.{length, get_or, drop, length-append, length-take}
use lib.Dec.{ltb}
use Rattle.definitions.specs.Name.{Name}
use Rattle.definitions.specs.Prop.{Prop, True, False, Binary, Atom, Quantified, PropParameter, Uninstantiated, Instantiated, parameter_name, and, Quantifier, rename_parameter, rename_prop}
use Rattle.definitions.specs.Code.{u16, encode_parameter, encode_parameters, encode}
use Rattle.definitions.specs.Sheet.{pair_size, number_at, pair_offset, pair_length, marked}
use Rattle.definitions.specs.Display.{wrap, is_negation, precedence, wraps_left, wraps_right, connective_text, quantifier_text, following_parameters, display_parameters, display_prop}
use Rattle.definitions.proofs.SignLengths.{connective_length, quantifier_length, wrap_most}
use Rattle.definitions.proofs.PrefixCode.{Bytes}
use Rattle.prefix_code.specs.PropAt.{prop_at}
use Rattle.prefix_code.proofs.Reading.{part_bytes}
use Rattle.vocabulary.specs.declared.Vocabulary.{Vocabulary}
use Rattle.vocabulary.specs.Vocabulary.{pairs_in, text_in, name_in, prop_in}
use Rattle.prop.specs.Ends.{Known}
use Rattle.prop.specs.Printing.{prop_text, KnownIn}
use Rattle.prop.proofs.Parts.{own_end}

-- brackets are two bytes
pub wrapped_length : (t : List ℕ) → length (wrap true t) ≡ 2 + length t
unfolding wrap
wrapped_length t = omega (arith, length-append t (41 ∷ []))

-- a name's length is a number of its pair
pub short_name : (bytes : List ℕ) (v : Vocabulary) → Bytes bytes → (n : ℕ) → length (name_in bytes v n) ≤ 65535
unfolding name_in pairs_in marked pair_length number_at
short_name bytes v given n =
    let pairs = part_bytes (pair_size * v.name_count) v.pairs bytes given in
    omega (
      arith,
      length-take (pair_length (pairs_in bytes v) n) (drop (pair_offset (pairs_in bytes v) n) (text_in bytes v)),
      pairs (pair_size * n + 2),
      pairs (pair_size * n + 2 + 1),
    )

-- Over any names:
module _ (f : ℕ → Name) where
  -- what parameters add: each its name and two bytes
  unfoldable pub parameter_sum : List (PropParameter ℕ) → ℕ
  parameter_sum [] = 0
  parameter_sum (p ∷ ps) = 2 + length (f (parameter_name p)) + parameter_sum ps

  renamed_name : (p : PropParameter ℕ) → parameter_name (rename_parameter f p) ≡ f (parameter_name p)
  unfolding parameter_name rename_parameter
  renamed_name (Uninstantiated x) = refl
  renamed_name (Instantiated x i) = refl

  following_length : (ps : List (PropParameter ℕ)) → length (following_parameters (map (rename_parameter f) ps)) ≡ parameter_sum ps
  unfolding following_parameters parameter_sum
  following_length [] = refl
  following_length (p ∷ ps) =
      rw (renamed_name p)
      (omega (arith, length-append (f (parameter_name p)) (following_parameters (map (rename_parameter f) ps)), following_length ps))

  parameters_length : (ps : List (PropParameter ℕ)) → length (display_parameters (map (rename_parameter f) ps)) ≡ parameter_sum ps
  unfolding display_parameters parameter_sum
  parameters_length [] = refl
  parameters_length (p ∷ ps) =
      let others = following_parameters (map (rename_parameter f) ps) in
      rw (renamed_name p)
      (omega (arith, length-append (f (parameter_name p)) (others ++ (41 ∷ [])), length-append others (41 ∷ []), following_length ps))

  pub atom_length : (a : ℕ) (ps : List (PropParameter ℕ)) → length (display_prop (rename_prop f (Atom a ps))) ≡ length (f a) + parameter_sum ps
  unfolding rename_prop display_prop
  atom_length a ps = omega (arith, length-append (f a) (display_parameters (map (rename_parameter f) ps)), parameters_length ps)

  pub quantified_length : (q : Quantifier) (x t : ℕ) (p : Prop ℕ) →
      length (display_prop (rename_prop f (Quantified q x t p))) ≡ length (f x) + length (f t) + 6 + length (display_prop (rename_prop f p))
  unfolding rename_prop display_prop
  quantified_length q x t p =
      let body = display_prop (rename_prop f p) in
      omega (
        arith,
        length-append (quantifier_text q) (f x ++ ((58 ∷ []) ++ (f t ++ ((46 ∷ 32 ∷ []) ++ body)))),
        quantifier_length q,
        length-append (f x) ((58 ∷ []) ++ (f t ++ ((46 ∷ 32 ∷ []) ++ body))),
        length-append (f t) ((46 ∷ 32 ∷ []) ++ body),
      )

  module _ (short : (n : ℕ) → length (f n) ≤ 65535) where
    parameters_most : (ps : List (PropParameter ℕ)) → parameter_sum ps ≤ 26216 * length (encode_parameters ps)
    unfolding parameter_sum encode_parameter encode_parameters u16
    parameters_most [] = omega arith
    parameters_most (Uninstantiated x ∷ ps) = omega (arith, short (parameter_name (Uninstantiated x)), parameters_most ps)
    parameters_most (Instantiated x i ∷ ps) = omega (arith, short (parameter_name (Instantiated x i)), parameters_most ps)

    -- so many bytes for each byte of the code at the most
    text_most : (p : Prop ℕ) → length (display_prop (rename_prop f p)) ≤ 26216 * length (encode p)
    unfolding rename_prop display_prop encode u16
    text_most True = omega arith
    text_most False = omega arith
    text_most (Binary c p q) = go (is_negation c (rename_prop f q)) (text_most p) (text_most q)
      where
        left : List ℕ
        left = display_prop (rename_prop f p)

        right : List ℕ
        right = display_prop (rename_prop f q)

        go : (b : Bool) → length left ≤ 26216 * length (encode p) → length right ≤ 26216 * length (encode q) →
            length (cond b ((194 ∷ 172 ∷ []) ++ wrap (ltb (precedence (rename_prop f p)) 999) left)
            (wrap (wraps_left c (precedence (rename_prop f p))) left
            ++ (connective_text c ++ wrap (wraps_right c (precedence (rename_prop f q))) right)))
            ≤ 26216 * length (encode (Binary c p q))
        go true l r = omega (arith, length-append (encode p) (encode q), wrap_most (ltb (precedence (rename_prop f p)) 999) left)
        go false l r = omega (
          arith,
          length-append (encode p) (encode q),
          length-append (wrap (wraps_left c (precedence (rename_prop f p))) left) (connective_text c ++ wrap (wraps_right c (precedence (rename_prop f q))) right),
          length-append (connective_text c) (wrap (wraps_right c (precedence (rename_prop f q))) right),
          connective_length c,
          wrap_most (wraps_left c (precedence (rename_prop f p))) left,
          wrap_most (wraps_right c (precedence (rename_prop f q))) right,
        )
    text_most (Atom a ps) = omega (arith, atom_length a ps, short a, parameters_most ps)
    text_most (Quantified q x t p) = omega (arith, quantified_length q x t p, short x, short t, text_most p)

    pub text_small : {names : ℕ} {l ends : List ℕ} {at : ℕ} → get_or ends at 0 < 65536 → Known names l ends at
        → length (display_prop (rename_prop f (prop_at names l at))) ≤ 1718065560
    text_small {names} {l} {ends} {at} fits k =
        omega (arith, text_most (prop_at names l at), own_end ends at (prop_at names l at) k.ends)

-- the same of a proposition in a memory
pub text_fits : (bytes ends : List ℕ) (v : Vocabulary) (at : ℕ) → Bytes bytes → get_or ends at 0 < 65536 → KnownIn bytes v ends at
    → length (prop_text bytes v at) ≤ 1718065560
unfolding prop_in
text_fits bytes ends v at given fits k = text_small (name_in bytes v) (short_name bytes v given) fits k
