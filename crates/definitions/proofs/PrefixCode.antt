-- Reading inverts writing, both ways: the code of a proposition reads back as that proposition, and what is read from bytes is the proposition whose code stands there.
use Prim.Native.Nat.{ℕ, zero, suc, ◌+◌, ◌*◌, ◌/◌, ◌%◌, ◌<◌, ◌≤◌}
use mathlib.Core.Path.{◌≡◌, refl, sym, ap, ◌∙◌}
use Rattle.std.specs.Prelude.{Some}
use mathlib.Core.List.{List, [], ◌∷◌, ◌++◌, append_assoc, append-nil}
use native.Mathlib.Omega.{arith}
use lib.ListN.{length, length-append}
use lib.Dec.{ltb, leb}
use borrow.Author.Tests.{lt-ltb, le-leb, ltb-true, leb-true}
use Rattle.definitions.specs.Prop.{Prop, True, False, Binary, Atom, Quantified, PropParameter, Uninstantiated, Instantiated, Connective, and, or, impl, connective_byte, Quantifier, for_all, exists, quantifier_byte}
use Rattle.definitions.specs.Code.{Read, Reading, yield, fail, followed_by, ◌>>=◌, byte, number, whole, parameter_limit, name_number, uninstantiated, instantiated, parameter, parameters, atom, binary, quantified, by_head, proposition, decode, u16, encode_parameter, encode_parameters, encode, CodableParameter, CodableParameters, Codable}
use Rattle.definitions.proofs.Readings.{given, reads_none, reads_some, reads_if, reads_then, Recovers, RecoversAfter, recover_byte, recover_number, recover_fail, recover_picked, entries, whole_read}
use Rattle.std.proofs.lemmas.Option.{same_Some}
pub use Rattle.definitions.proofs.Readings.{Bytes}
pub use Rattle.definitions.proofs.Shape.{code_nonempty}

-- a number is put together from its two bytes
pub split_number : (n : ℕ) → n % 256 + 256 * (n / 256) ≡ n
split_number n = omega arith

-- The code reads back, for any count of names: of a number past 16 bits `u16` makes a second element that is no byte, and reads back all the same.
read_number : (n : ℕ) (rest : List ℕ) → number (u16 n ++ rest) ≡ given n rest
unfolding number byte yield followed_by ◌>>=◌ u16
read_number n rest = rw (split_number n)

module _ (names : ℕ) where
  read_name : (x : ℕ) (rest : List ℕ) → x < names → name_number names (u16 x ++ rest) ≡ given x rest
  unfolding name_number yield followed_by ◌>>=◌
  read_name x rest h = rw (read_number, lt-ltb)

  read_parameter : (p : PropParameter ℕ) (rest : List ℕ) → CodableParameter names p
      → parameter names (encode_parameter p ++ rest) ≡ given p rest
  unfolding parameter byte uninstantiated instantiated yield followed_by ◌>>=◌ encode_parameter CodableParameter
  read_parameter (Uninstantiated x) rest h = rw read_name
  read_parameter (Instantiated x i) rest h = rw (append_assoc, read_name x _ h.0, read_number)

  read_parameters : (ps : List (PropParameter ℕ)) (rest : List ℕ) → CodableParameters names ps
      → parameters names (length ps) (encode_parameters ps ++ rest) ≡ given ps rest
  unfolding parameters yield followed_by ◌>>=◌ encode_parameters CodableParameters
  read_parameters [] rest h = refl
  read_parameters (p ∷ ps) rest h = rw (append_assoc, read_parameter p _ h.0, read_parameters ps rest h.1)

  -- the byte in front picks the connective
  by_head_connective : (part : Reading (Prop ℕ)) (c : Connective) → by_head names part (connective_byte c) ≡ binary names part c
  unfolding by_head connective_byte
  by_head_connective part and = refl
  by_head_connective part or = refl
  by_head_connective part impl = refl

  -- the byte in front picks the quantifier
  by_head_quantifier : (part : Reading (Prop ℕ)) (q : Quantifier) → by_head names part (quantifier_byte q) ≡ quantified names part q
  unfolding by_head quantifier_byte
  by_head_quantifier part for_all = refl
  by_head_quantifier part exists = refl

  -- as many bytes as the code has are enough to read it
  pub read_encode : (bytes : ℕ) (p : Prop ℕ) (rest : List ℕ) → Codable names p → length (encode p) ≤ bytes
      → proposition names bytes (encode p ++ rest) ≡ given p rest
  unfolding proposition by_head byte binary atom quantified yield followed_by ◌>>=◌ encode Codable
  read_encode zero p rest ok fits = absurd (omega (arith, code_nonempty p))
  read_encode (suc bytes) True rest ok fits = refl
  read_encode (suc bytes) False rest ok fits = refl
  read_encode (suc bytes) (Binary c p q) rest ok fits =
      let sum = length-append (encode p) (encode q) in
      rw (by_head_connective, append_assoc, read_encode bytes p _ ok.0 (omega arith), read_encode bytes q rest ok.1 (omega arith))
  read_encode (suc bytes) (Atom a ps) rest ok fits =
      rw (append_assoc, read_name a _ ok.0, le-leb _ _ ok.1, read_parameters ps rest ok.2)
  read_encode (suc bytes) (Quantified q x t p) rest ok fits =
      let sum = length-append (u16 x) (u16 t ++ encode p) in
      let sum' = length-append (u16 t) (encode p) in
      rw (by_head_quantifier, append_assoc, append_assoc, read_name x _ ok.0, read_name t _ ok.1, read_encode bytes p rest ok.2 (omega arith))

  pub decode_encode : (p : Prop ℕ) → Codable names p → decode names (encode p) ≡ Some p
  unfolding decode whole
  decode_encode p ok = rw (rw append-nil at (read_encode (length (encode p)) p [] ok (omega arith)))

  -- a code determines its proposition, and where it ends
  pub encode_injective : (p q : Prop ℕ) (rest rest' : List ℕ) → Codable names p → Codable names q
      → encode p ++ rest ≡ encode q ++ rest' → (p ≡ q) × (rest ≡ rest')
  encode_injective p q rest rest' ok ok' e =
      let enough = length (encode p) + length (encode q) in
      let reads-p = read_encode enough p rest ok (omega arith) in
      let reads-q = read_encode enough q rest' ok' (omega arith) in
      let same = same_Some _ _ (sym reads-p ∙ ap (proposition names enough) e ∙ reads-q) in
      (ap (λ r. r.value) same, ap (λ r. r.rest) same)

-- What is read from bytes has been written, and is codable.
module _ (names : ℕ) where
  recover_name : Recovers (name_number names) u16 (λ x. x < names)
  unfolding name_number yield
  recover_name s h =
      reads_then (recover_number s h) λ x t v.
      reads_if (ltb x names) λ e.
      reads_some refl (record { split = v.split; good = ltb-true x names e; bytes = v.bytes })

  recover_uninstantiated : RecoversAfter 0 (uninstantiated names) encode_parameter (CodableParameter names)
  unfolding uninstantiated yield encode_parameter CodableParameter
  recover_uninstantiated s h =
      reads_then (recover_name s h) λ x t v.
      reads_some refl (record { split = (cc); good = v.good; bytes = v.bytes })

  recover_instantiated : RecoversAfter 1 (instantiated names) encode_parameter (CodableParameter names)
  unfolding instantiated yield encode_parameter CodableParameter
  recover_instantiated s h =
      reads_then (recover_name s h) λ x t v.
      reads_then (recover_number t v.bytes) λ i u w.
      reads_some refl (record { split = cc (append_assoc (u16 x) (u16 i) u); good = (v.good, w.good); bytes = w.bytes })

  recover_parameter : Recovers (parameter names) encode_parameter (CodableParameter names)
  unfolding parameter
  recover_parameter = recover_picked (entries _ recover_uninstantiated (entries _ recover_instantiated (λ n. recover_fail _)))

  recover_parameters : (n : ℕ) → n ≤ parameter_limit → Recovers (parameters names n) encode_parameters
      (λ ps. (length ps ≡ n) × (length ps ≤ parameter_limit) × CodableParameters names ps)
  unfolding parameters yield encode_parameters CodableParameters
  recover_parameters zero most s h = reads_some refl (record { split = refl; good = (refl, most, tt); bytes = h })
  recover_parameters (suc n) most s h =
      reads_then (recover_parameter s h) λ p t v.
      reads_then (recover_parameters n (omega arith) t v.bytes) λ ps u w.
      let count = w.good.0 in
      reads_some refl (record {
        split = cc (append_assoc (encode_parameter p) (encode_parameters ps) u);
        good = (omega arith, omega arith, (v.good, w.good.2));
        bytes = w.bytes;
      })

  recover_atom : RecoversAfter 5 (atom names) encode (Codable names)
  unfolding atom yield encode Codable
  recover_atom s h =
      reads_then (recover_name s h) λ a t u.
      reads_then (recover_byte t u.bytes) λ n t' v.
      reads_then (reads_if (leb n parameter_limit) λ e. recover_parameters n (leb-true n parameter_limit e) t' v.bytes) λ ps t'' w.
      let count = w.good.0 in
      reads_some refl (record {
        split = cc (append_assoc (u16 a) (length ps ∷ encode_parameters ps) t'');
        good = (u.good, w.good.1, w.good.2);
        bytes = w.bytes;
      })

  -- a proposition whose code is one byte
  recover_leaf : (p : Prop ℕ) (head : ℕ) → encode p ≡ head ∷ [] → Codable names p → RecoversAfter head (yield p) encode (Codable names)
  unfolding yield
  recover_leaf p head e ok s h = reads_some refl (record { split = rw e; good = ok; bytes = h })

  module _ (part : Reading (Prop ℕ)) (recover-part : Recovers part encode (Codable names)) where
    recover_binary : (c : Connective) → RecoversAfter (connective_byte c) (binary names part c) encode (Codable names)
    unfolding binary yield encode Codable
    recover_binary c s h =
        reads_then (recover-part s h) λ p t v.
        reads_then (recover-part t v.bytes) λ q u w.
        reads_some refl (record { split = cc (append_assoc (encode p) (encode q) u); good = (v.good, w.good); bytes = w.bytes })

    recover_quantified : (q : Quantifier) → RecoversAfter (quantifier_byte q) (quantified names part q) encode (Codable names)
    unfolding quantified yield encode Codable
    recover_quantified q s h =
        reads_then (recover_name s h) λ x t u.
        reads_then (recover_name t u.bytes) λ d t' v.
        reads_then (recover-part t' v.bytes) λ p t'' w.
        reads_some refl (record {
          split = cc (append_assoc (u16 x) (u16 d ++ encode p) t'', append_assoc (u16 d) (encode p) t'');
          good = (u.good, v.good, w.good);
          bytes = w.bytes;
        })

    recover_by_head : (head : ℕ) → RecoversAfter head (by_head names part head) encode (Codable names)
    unfolding by_head connective_byte quantifier_byte encode Codable
    recover_by_head =
        entries _ (recover_leaf True 0 refl tt)
        (entries _ (recover_leaf False 1 refl tt)
        (entries _ (recover_binary and)
        (entries _ (recover_binary or)
        (entries _ (recover_binary impl)
        (entries _ recover_atom
        (entries _ (recover_quantified for_all)
        (entries _ (recover_quantified exists) (λ n. recover_fail _))))))))

  recover_proposition : (bytes : ℕ) → Recovers (proposition names bytes) encode (Codable names)
  unfolding proposition fail
  recover_proposition zero s h = reads_none refl
  recover_proposition (suc bytes) s h = recover_picked (recover_by_head (proposition names bytes) (recover_proposition bytes)) s h

  -- what is read from bytes is codable, and its code stands in front
  pub encode_read : (bytes : ℕ) (s : List ℕ) (r : Read (Prop ℕ)) → Bytes s → proposition names bytes s ≡ Some r
      → (s ≡ encode r.value ++ r.rest) × Codable names r.value
  encode_read bytes s r h e = let w = (recover_proposition bytes s h).holds r e in (w.split, w.good)

  pub encode_decode : (s : List ℕ) (p : Prop ℕ) → Bytes s → decode names s ≡ Some p → (encode p ≡ s) × Codable names p
  unfolding decode
  encode_decode s p h e =
      let w = encode_read (length s) s _ h (whole_read (proposition names (length s) s) p e) in
      (cc (w.0, append-nil (encode p)), w.1)
