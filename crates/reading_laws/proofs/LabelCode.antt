-- The code of a conventional proposition is at most twice its text and two bytes more; every code has an even size.
use Prim.Native.Nat.{ℕ, suc, ◌+◌, ◌*◌, ◌%◌, ◌≤◌}
use mathlib.Core.Path.{◌≡◌, refl, sym}
use mathlib.Core.Bool.{Bool, true, false, cond, true≢false}
use mathlib.Core.List.{List, [], ◌∷◌, ◌++◌, map}
use native.Mathlib.Omega.{arith}
use lib.ListN.{length, length-append}
use Rattle.definitions.specs.Utf8.{utf8}
use Rattle.definitions.specs.Name.{Name}
use Rattle.definitions.specs.Prop.{Prop, True, False, Binary, Atom, Quantified, PropParameter, Uninstantiated, Instantiated, parameter_name, is_false, Connective, and, or, impl, rename_prop, rename_parameter}
use Rattle.definitions.specs.Code.{u16, encode_parameter, encode_parameters, encode}
use Rattle.definitions.specs.Display.{wrap, is_negation, precedence, wraps_left, wraps_right, connective_text, quantifier_text, following_parameters, display_parameters, display_prop}
use Rattle.definitions.specs.TermText.{ConventionalParameters, ConventionalProp, code_bytes}
use Rattle.definitions.specs.Term.{Label, proposition, datatype}
use Rattle.definitions.specs.TermMemory.{label_size}
use Rattle.definitions.proofs.SignLengths.{connective_length, quantifier_length}
use Rattle.reading_laws.proofs.WordsRead.{some_byte}

-- codes of labels have even sizes
pub even_label : (l : Label Name) → label_size l % 2 ≡ 0
unfolding label_size
even_label (proposition p) = omega arith
even_label (datatype t) = refl

-- what is denied has a code of one byte
short_false : (c : Connective) (q : Prop Name) → is_negation c q ≡ true → length (encode (rename_prop {M = ℕ} (λ x. 0) q)) ≡ 1
unfolding is_negation is_false encode rename_prop
short_false and q e = absurd (true≢false (sym e))
short_false or q e = absurd (true≢false (sym e))
short_false impl True e = absurd (true≢false (sym e))
short_false impl False e = refl
short_false impl (Binary c p q) e = absurd (true≢false (sym e))
short_false impl (Atom a ps) e = absurd (true≢false (sym e))
short_false impl (Quantified q x t p) e = absurd (true≢false (sym e))

wrap_longer : (flag : Bool) (s : List ℕ) → length s ≤ length (wrap flag s)
unfolding wrap
wrap_longer true s = omega (arith, length-append s (41 ∷ []))
wrap_longer false s = omega arith

abbrev code_of : List (PropParameter Name) → ℕ
code_of ps = length (encode_parameters (map (rename_parameter (λ x. 0)) ps))

parameter_code : (p : PropParameter Name) → length (encode_parameter (rename_parameter {M = ℕ} (λ x. 0) p)) ≤ 5
unfolding encode_parameter rename_parameter u16
parameter_code (Uninstantiated x) = omega arith
parameter_code (Instantiated x i) = omega arith

following_code : (bound : List Name) (ps : List (PropParameter Name)) → ConventionalParameters bound ps → code_of ps ≤ 2 * length (following_parameters ps)
unfolding ConventionalParameters encode_parameters following_parameters
following_code bound [] h = omega arith
following_code bound (p ∷ ps) h =
    omega (
      arith,
      parameter_code p,
      following_code bound ps h.2,
      some_byte (parameter_name p) h.0,
      length-append (parameter_name p) (following_parameters ps),
      length-append (encode_parameter (rename_parameter (λ x. 0) p)) (encode_parameters (map (rename_parameter (λ x. 0)) ps)),
    )

parameters_code : (bound : List Name) (ps : List (PropParameter Name)) → ConventionalParameters bound ps → code_of ps ≤ 2 * length (display_parameters ps)
unfolding ConventionalParameters encode_parameters display_parameters
parameters_code bound [] h = omega arith
parameters_code bound (p ∷ ps) h =
    omega (
      arith,
      parameter_code p,
      following_code bound ps h.2,
      some_byte (parameter_name p) h.0,
      length-append (parameter_name p) (following_parameters ps ++ (41 ∷ [])),
      length-append (following_parameters ps) (41 ∷ []),
      length-append (encode_parameter (rename_parameter (λ x. 0) p)) (encode_parameters (map (rename_parameter (λ x. 0)) ps)),
    )

pub label_code : (bound : List Name) (p : Prop Name) → ConventionalProp bound p → code_bytes p ≤ 2 * length (display_prop p) + 2
unfolding ConventionalProp code_bytes encode rename_prop display_prop u16
label_code bound True h = omega arith
label_code bound False h = omega arith
label_code bound (Binary c p q) h = go (is_negation c q) refl (label_code bound p h.0) (label_code bound q h.1)
  where
    code : Prop Name → List ℕ
    code r = encode (rename_prop (λ x. 0) r)

    go : (b : Bool) → is_negation c q ≡ b → length (code p) ≤ 2 * length (display_prop p) + 2 → length (code q) ≤ 2 * length (display_prop q) + 2
        → suc (length (code p ++ code q)) ≤ 2 * length (cond b (utf8 "¬" ++ wrap (lib.Dec.ltb (precedence p) 999) (display_prop p))
        (wrap (wraps_left c (precedence p)) (display_prop p) ++ (connective_text c ++ wrap (wraps_right c (precedence q)) (display_prop q)))) + 2
    go true e a b =
        omega (arith, length-append (code p) (code q), wrap_longer (lib.Dec.ltb (precedence p) 999) (display_prop p), short_false c q e)
    go false e a b =
        omega (
          arith,
          length-append (code p) (code q),
          wrap_longer (wraps_left c (precedence p)) (display_prop p),
          wrap_longer (wraps_right c (precedence q)) (display_prop q),
          connective_length c,
          length-append (wrap (wraps_left c (precedence p)) (display_prop p)) (connective_text c ++ wrap (wraps_right c (precedence q)) (display_prop q)),
          length-append (connective_text c) (wrap (wraps_right c (precedence q)) (display_prop q)),
        )
label_code bound (Atom a ps) h = omega (arith, parameters_code bound ps h.2, some_byte a h.0, length-append a (display_parameters ps))
label_code bound (Quantified q x t p) h =
    omega (
      arith,
      label_code (x ∷ bound) p h.2,
      some_byte x h.0,
      some_byte t h.1,
      quantifier_length q,
      length-append (quantifier_text q) (x ++ (58 ∷ (t ++ (46 ∷ 32 ∷ display_prop p)))),
      length-append x (58 ∷ (t ++ (46 ∷ 32 ∷ display_prop p))),
      length-append t (46 ∷ 32 ∷ display_prop p),
    )
