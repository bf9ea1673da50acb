-- What the end of the code at 0 says of all the bytes: what they decode to, and how deep that nests.
use Prim.Native.Nat.{ℕ, ◌*◌, ◌≤◌, ◌<◌}
use mathlib.Core.Path.{◌≡◌, refl, sym, ap, ◌∙◌}
use mathlib.Core.Bool.{false, not}
use Rattle.std.specs.Prelude.{Option, None, Some, unwrap_or, is_some as given}
use Rattle.std.specs.Option.{option_eq}
use mathlib.Core.List.{List, [], ◌∷◌, append-nil}
use native.Mathlib.Omega.{arith}
use native.Mathlib.Decide.{dec_lt}
use lib.ListN.{length, length-append}
use lib.Dec.{eqb, ltb}
use borrow.Author.Tests.{eq-eqb, ne_eqb, lt-ltb, le-ltb}
use Rattle.definitions.specs.Prop.{Prop, False, nesting}
use Rattle.definitions.specs.Code.{encode, decode}
use Rattle.definitions.specs.Admission.{is_none}
use Rattle.definitions.proofs.Shape.{two_bytes_a_level}
use Rattle.definitions.proofs.PrefixCode.{Bytes, decode_encode, encode_decode, encode_injective}
use Rattle.prefix_code.specs.Scan.{Stands, EndIfAny, At, proposition_coding, Shallow, shallow_coding}
use Rattle.prefix_code.proofs.Reading.{is_some}

module _ (names : ℕ) (l : List ℕ) (bytes : Bytes l) where
  -- bytes that decode are the code of what they decode to
  decoded : (p : Prop ℕ) → decode names l ≡ Some p → At names l 0 p []
  unfolding Stands
  decoded p e =
      let w = encode_decode names l p bytes e in
      (w.1, sym (append-nil (encode p) ∙ w.0))

  -- a code over the whole length decodes
  whole_decodes : (p : Prop ℕ) (rest : List ℕ) → At names l 0 p rest → length (encode p) ≡ length l → decode names l ≡ Some p
  unfolding Stands
  whole_decodes p [] (g, e) h = rw (e, append-nil) (decode_encode names p g)
  whole_decodes p (x ∷ rest) (g, e) h = absurd (omega (arith, simp length-append at (ap length e)))

  -- the code of what they decode to is as long as they are
  decoded_length : (p : Prop ℕ) → decode names l ≡ Some p → length (encode p) ≡ length l
  decoded_length p e = ap length (encode_decode names l p bytes e).0

  pub scanned_whole : (o : Option ℕ) → EndIfAny (proposition_coding names) l 0 o
      → option_eq eqb o (Some (length l)) ≡ not (is_none (decode names l))
  unfolding is_none
  scanned_whole o s = by o s (decode names l) refl
    where
      by : (o : Option ℕ) → EndIfAny (proposition_coding names) l 0 o → (d : Option (Prop ℕ)) → decode names l ≡ d
          → option_eq eqb o (Some (length l)) ≡ not (is_none d)
      by None none None e = refl
      by None none (Some p) e = absurd (none p [] (decoded p e))
      by (Some r) s None e = ne_eqb r (length l) λ h.
          let t = s.starts in
          let d = whole_decodes t.value t.rest t.stands (omega (arith, s.found t.value t.rest t.stands)) in
          grind arith
      by (Some r) s (Some p) e = eq-eqb r (length l) (omega (arith, s.found p [] (decoded p e), decoded_length p e))

  pub shallow_whole : (depth : ℕ) (o : Option ℕ) → is_none (decode names l) ≡ false → EndIfAny (shallow_coding names depth) l 0 o
      → not (given o) ≡ ltb depth (nesting (unwrap_or (decode names l) False))
  unfolding Stands Shallow
  shallow_whole depth o is s =
      let (p, e) = is_some (decode names l) is in rw e (by p e o s (dec_lt depth (nesting p)))
    where
      by : (p : Prop ℕ) → decode names l ≡ Some p → (o : Option ℕ) → EndIfAny (shallow_coding names depth) l 0 o → Dec (depth < nesting p)
          → not (given o) ≡ ltb depth (nesting p)
      by p e None none (yes deep) = sym (lt-ltb depth (nesting p) deep)
      by p e None none (no flat) =
          let whole = decoded p e in absurd (none p [] ((whole.0, omega arith), whole.1))
      by p e (Some r) s (no flat) = sym (le-ltb depth (nesting p) (omega arith))
      by p e (Some r) s (yes deep) =
          let whole = decoded p e in
          let q = s.starts in
          let same = (encode_injective names q.value p q.rest [] q.stands.0.0 whole.0 (sym q.stands.1 ∙ whole.1)).0 in
          absurd (omega (arith, ap nesting same, q.stands.0.1))

  -- short code nests no deeper
  pub short_whole : (depth : ℕ) → is_none (decode names l) ≡ false → length l ≤ 2 * depth
      → false ≡ ltb depth (nesting (unwrap_or (decode names l) False))
  short_whole depth is short =
      let (p, e) = is_some (decode names l) is in
      rw e (sym (le-ltb depth (nesting p) (omega (arith, two_bytes_a_level p, decoded_length p e))))
