-- What the byte in front says of the proposition that stands there: its form, its names, and where its parts stand.
use Prim.Native.Nat.{ℕ, ◌+◌, ◌≤◌, ◌<◌}
use mathlib.Core.Path.{◌≡◌, refl, subst}
use mathlib.Core.Logic.Iff
use mathlib.Core.Logic.{◌↔◌, by_cases}
use mathlib.Core.List.{List, [], ◌∷◌, ◌++◌, append_assoc}
use native.Mathlib.Omega.{arith}
use native.Mathlib.Decide.{dec_lt}
use lib.ListN.{length, drop, get_or, get_or-eq_default}
use Rattle.definitions.specs.Prop.{Prop, True, False, Binary, Atom, Quantified, PropParameter, Connective, and, or, impl, connective_byte, Quantifier, for_all, exists, quantifier_byte}
use Rattle.definitions.specs.Code.{u16, encode, Codable}
use Rattle.prefix_code.specs.Scan.{Stands, At, proposition_coding}
use Rattle.prefix_code.specs.Head.{encode_head, CodableHead}
use Rattle.prefix_code.proofs.Positions.{after, extent, byte_at}
use Rattle.prefix_code.proofs.Runs.{run_of}
use Rattle.prefix_code.proofs.Heads.{AtomBytes, atom_bytes, QuantifiedBytes, quantified_bytes, connective_of, quantifier_of, head_bytes}
use Rattle.prefix_code.proofs.Propositions.{codable_layer, head_run}

module _ (names : ℕ) (l : List ℕ) (at : ℕ) (rest : List ℕ) where
  pub record BinaryAt (p : Prop ℕ) : Type 0 where
    pub connective : Connective
    pub left : Prop ℕ
    pub right : Prop ℕ
    pub is : p ≡ Binary connective left right
    pub byte : get_or l at 0 ≡ connective_byte connective
    pub left_at : At names l (at + 1) left (encode right ++ rest)
    pub right_at : At names l (at + 1 + length (encode left)) right rest

  pub record AtomAt (p : Prop ℕ) : Type 0 where
    pub atom : ℕ
    pub parameters : List (PropParameter ℕ)
    pub is : p ≡ Atom atom parameters
    pub bytes : AtomBytes names l at atom parameters rest

  pub record QuantifiedAt (p : Prop ℕ) : Type 0 where
    pub quantifier : Quantifier
    pub object : ℕ
    pub datatype : ℕ
    pub body : Prop ℕ
    pub is : p ≡ Quantified quantifier object datatype body
    pub bytes : QuantifiedBytes names l at quantifier object datatype (encode body ++ rest)
    pub body_at : At names l (at + 5) body rest

  -- the form for each byte in front, in the order in which the definition reads them
  abbrev forms : List (Prop ℕ → Type 0)
  forms = (λ p. p ≡ True) ∷ (λ p. p ≡ False) ∷ BinaryAt ∷ BinaryAt ∷ BinaryAt ∷ AtomAt ∷ QuantifiedAt ∷ QuantifiedAt ∷ []

  abbrev FormAt : ℕ → Prop ℕ → Type 0
  FormAt b = get_or forms b (λ p. ⊥)

  binary_form : (c : Connective) (p : Prop ℕ) → FormAt (connective_byte c) p ↔ BinaryAt p
  unfolding connective_byte
  binary_form and p = Iff.rfl
  binary_form or p = Iff.rfl
  binary_form impl p = Iff.rfl

  quantified_form : (q : Quantifier) (p : Prop ℕ) → FormAt (quantifier_byte q) p ↔ QuantifiedAt p
  unfolding quantifier_byte
  quantified_form for_all p = Iff.rfl
  quantified_form exists p = Iff.rfl

  form_at : (p : Prop ℕ) → At names l at p rest → FormAt (get_or l at 0) p
  unfolding Stands encode Codable encode_head CodableHead u16
  form_at True (g, e) = rw (byte_at l at (at + 1) 0 rest (omega arith) e).value refl
  form_at False (g, e) = rw (byte_at l at (at + 1) 1 rest (omega arith) e).value refl
  form_at (Binary c p q) (g, e) =
      let b = byte_at l at (at + 1) (connective_byte c) (encode p ++ encode q ++ rest) (omega arith) e in
      let next : drop (at + 1) l ≡ encode p ++ (encode q ++ rest) = cc (b.next, append_assoc (encode p) (encode q) rest) in
      rw b.value ((binary_form c (Binary c p q)).1 (record {
        connective = c;
        left = p;
        right = q;
        is = refl;
        byte = b.value;
        left_at = (g.0, next);
        right_at = (g.1, after l (at + 1) (encode p) (encode q ++ rest) next);
      }))
  form_at (Atom a ps) s =
      let b = atom_bytes names l at a ps rest s in
      rw b.byte (record { atom = a; parameters = ps; is = refl; bytes = b })
  form_at (Quantified q x t p) (g, e) =
      let b = quantified_bytes names l at q x t (encode p ++ rest) ((g.0, g.1), e) in
      rw b.byte ((quantified_form q (Quantified q x t p)).1 (record {
        quantifier = q;
        object = x;
        datatype = t;
        body = p;
        is = refl;
        bytes = b;
        body_at = (g.2, b.next);
      }))

  module _ (p : Prop ℕ) (s : At names l at p rest) where
    pub inside_at : (at < length l) × (at + length (encode p) ≤ length l)
    unfolding Stands
    inside_at =
        let run = run_of (proposition_coding names) l at p rest s in
        let (h, ys, g, e, r) = (head_run names (Codable names) (Codable names) (codable_layer names) (drop at l) rest).0 run in
        let inside = (head_bytes names l at h ys (g, e)).inside in
        (inside, omega (arith, extent l at (encode p) rest (omega arith) s.1))

    pub known_at : get_or l at 0 < 8
    known_at = by_cases (dec_lt (get_or l at 0) 8)
        (λ h. h)
        (λ h. let none = get_or-eq_default forms (λ q. ⊥) {n = get_or l at 0} (omega arith) in
        absurd (subst (λ (Form : Prop ℕ → Type 0). Form p) none (form_at p s)))

    pub true_at : get_or l at 0 ≡ 0 → p ≡ True
    true_at h = rw h at (form_at p s)

    pub false_at : get_or l at 0 ≡ 1 → p ≡ False
    false_at h = rw h at (form_at p s)

    pub binary_at : 2 ≤ get_or l at 0 → get_or l at 0 < 5 → BinaryAt p
    binary_at low high = let (c, e) = connective_of (get_or l at 0) low high in (binary_form c p).0 (rw e at (form_at p s))

    pub atom_at : get_or l at 0 ≡ 5 → AtomAt p
    atom_at h = rw h at (form_at p s)

    pub quantified_at : 5 < get_or l at 0 → QuantifiedAt p
    quantified_at low = let (q, e) = quantifier_of (get_or l at 0) low known_at in (quantified_form q p).0 (rw e at (form_at p s))
