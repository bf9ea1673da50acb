-- What the bytes at a position say of the head whose code stands there, and the other way round.
use Prim.Native.Nat.{ℕ, zero, suc, ◌+◌, ◌≤◌, ◌<◌}
use mathlib.Core.Path.{◌≡◌, refl, sym, ap, ◌∙◌}
use mathlib.Core.Logic.{by_cases}
use mathlib.Core.List.{List, [], ◌∷◌, ◌++◌}
use native.Mathlib.Omega.{arith}
use native.Mathlib.Decide.{dec_lt}
use lib.ListN.{length, drop, get_or}
use Rattle.std.specs.Prelude.{Option, None, Some}
use Rattle.definitions.specs.Sheet.{number_at}
use Rattle.definitions.specs.Prop.{PropParameter, Connective, and, or, impl, connective_byte, Quantifier, for_all, exists, quantifier_byte}
use Rattle.definitions.specs.Code.{parameter_limit, u16, encode_parameters}
use Rattle.definitions.proofs.Readings.{Bytes}
use Rattle.prefix_code.specs.Scan.{Stands, Absent, Ends, EndIfAny, Several, parameters_coding}
use Rattle.prefix_code.specs.Head.{Head, TrueHead, FalseHead, BinaryHead, AtomHead, QuantifiedHead, encode_head, CodableHead, head_coding, parts_after}
use Rattle.prefix_code.proofs.Positions.{extent, byte_stands, byte_at, number_stands, number_at_lem}

-- how many parts follow a head
abbrev pub part_count : Head → ℕ
part_count TrueHead = 0
part_count FalseHead = 0
part_count (BinaryHead c) = 2
part_count (AtomHead a ps) = 0
part_count (QuantifiedHead q x t) = 1

-- the bytes of the connectives and quantifiers, and the parts that follow them
pub connective_byte_lem : (c : Connective) → (2 ≤ connective_byte c) × (connective_byte c < 5) × (parts_after (connective_byte c) ≡ 2)
unfolding connective_byte parts_after
connective_byte_lem and = (omega arith, omega arith, refl)
connective_byte_lem or = (omega arith, omega arith, refl)
connective_byte_lem impl = (omega arith, omega arith, refl)

pub quantifier_byte_lem : (q : Quantifier) → (6 ≤ quantifier_byte q) × (quantifier_byte q < 8) × (parts_after (quantifier_byte q) ≡ 1)
unfolding quantifier_byte parts_after
quantifier_byte_lem for_all = (omega arith, omega arith, refl)
quantifier_byte_lem exists = (omega arith, omega arith, refl)

-- the connective and the quantifier of a byte
pub connective_of : (b : ℕ) → 2 ≤ b → b < 5 → (c : Connective) × (b ≡ connective_byte c)
unfolding connective_byte
connective_of b low high = by_cases (dec_lt b 3)
    (λ h. (and, omega arith))
    (λ h. by_cases (dec_lt b 4) (λ k. (or, omega arith)) (λ k. (impl, omega arith)))

pub quantifier_of : (b : ℕ) → 5 < b → b < 8 → (q : Quantifier) × (b ≡ quantifier_byte q)
unfolding quantifier_byte
quantifier_of b low high = by_cases (dec_lt b 7) (λ h. (for_all, omega arith)) (λ h. (exists, omega arith))

module _ (names : ℕ) where
  abbrev pub HeadAt : List ℕ → ℕ → Head → List ℕ → Type 0
  HeadAt = Stands (head_coding names)

  -- an atom: byte 5, name, count, parameters
  pub record AtomBytes (l : List ℕ) (at a : ℕ) (ps : List (PropParameter ℕ)) (rest : List ℕ) : Type 0 where
    pub byte : get_or l at 0 ≡ 5
    pub inside : at + 4 ≤ length l
    pub name : number_at l (at + 1) ≡ a
    pub below : a < names
    pub count : get_or l (at + 3) 0 ≡ length ps
    pub few : length ps ≤ parameter_limit
    pub parameters : Stands (parameters_coding names (get_or l (at + 3) 0)) l (at + 4) ps rest

  pub atom_bytes : (l : List ℕ) (at a : ℕ) (ps : List (PropParameter ℕ)) (rest : List ℕ) → HeadAt l at (AtomHead a ps) rest → AtomBytes l at a ps rest
  unfolding Stands Several encode_head CodableHead u16
  atom_bytes l at a ps rest (g, e) =
      let head = byte_at l at (at + 1) 5 (u16 a ++ (length ps ∷ (encode_parameters ps ++ rest))) (omega arith) e in
      let name = number_at_lem l (at + 1) (at + 3) a (length ps ∷ (encode_parameters ps ++ rest)) (omega arith) head.next in
      let count = byte_at l (at + 3) (at + 4) (length ps) (encode_parameters ps ++ rest) (omega arith) name.next in
      record {
        byte = head.value;
        inside = omega (arith, count.inside);
        name = name.value;
        below = g.0;
        count = count.value;
        few = g.1;
        parameters = ((g.2, sym count.value), count.next);
      }

  -- a quantifier: its byte, object name, datatype name
  pub record QuantifiedBytes (l : List ℕ) (at : ℕ) (q : Quantifier) (x t : ℕ) (rest : List ℕ) : Type 0 where
    pub byte : get_or l at 0 ≡ quantifier_byte q
    pub inside : at + 5 ≤ length l
    pub object : number_at l (at + 1) ≡ x
    pub object_below : x < names
    pub datatype : number_at l (at + 3) ≡ t
    pub datatype_below : t < names
    pub next : drop (at + 5) l ≡ rest

  pub quantified_bytes : (l : List ℕ) (at : ℕ) (q : Quantifier) (x t : ℕ) (rest : List ℕ) → HeadAt l at (QuantifiedHead q x t) rest
      → QuantifiedBytes l at q x t rest
  unfolding Stands encode_head CodableHead u16
  quantified_bytes l at q x t rest (g, e) =
      let head = byte_at l at (at + 1) (quantifier_byte q) (u16 x ++ (u16 t ++ rest)) (omega arith) e in
      let object = number_at_lem l (at + 1) (at + 3) x (u16 t ++ rest) (omega arith) head.next in
      let datatype = number_at_lem l (at + 3) (at + 5) t rest (omega arith) object.next in
      record {
        byte = head.value;
        inside = omega (arith, datatype.inside);
        object = object.value;
        object_below = g.0;
        datatype = datatype.value;
        datatype_below = g.1;
        next = datatype.next;
      }

  -- what follows from the head byte
  pub record HeadBytes (l : List ℕ) (at : ℕ) (h : Head) (rest : List ℕ) : Type 0 where
    pub inside : at < length l
    pub known : get_or l at 0 < 8
    pub parts : part_count h ≡ parts_after (get_or l at 0)
    pub bare : get_or l at 0 < 5 → drop (at + 1) l ≡ rest
    pub named : 5 ≤ get_or l at 0 → (at + 4 ≤ length l) × (number_at l (at + 1) < names)
    pub atom : get_or l at 0 ≡ 5 → (a : ℕ) × (ps : List (PropParameter ℕ)) × AtomBytes l at a ps rest
    pub quantified : 5 < get_or l at 0 → (q : Quantifier) × (x t : ℕ) × QuantifiedBytes l at q x t rest

  bare_bytes : (l : List ℕ) (at : ℕ) (h : Head) (rest : List ℕ) (b : ℕ) → drop at l ≡ b ∷ rest → b < 5 → part_count h ≡ parts_after b → HeadBytes l at h rest
  bare_bytes l at h rest b e k n =
      let head = byte_at l at (at + 1) b rest (omega arith) e in
      let value : get_or l at 0 ≡ b = head.value in
      record {
        inside = head.inside;
        known = omega arith;
        parts = rw value n;
        bare = λ _. head.next;
        named = λ m. absurd (omega arith);
        atom = λ m. absurd (omega arith);
        quantified = λ m. absurd (omega arith);
      }

  pub head_bytes : (l : List ℕ) (at : ℕ) (h : Head) (rest : List ℕ) → HeadAt l at h rest → HeadBytes l at h rest
  unfolding Stands encode_head CodableHead parts_after
  head_bytes l at TrueHead rest s = bare_bytes l at TrueHead rest 0 s.1 (omega arith) refl
  head_bytes l at FalseHead rest s = bare_bytes l at FalseHead rest 1 s.1 (omega arith) refl
  head_bytes l at (BinaryHead c) rest s =
      let b = connective_byte_lem c in bare_bytes l at (BinaryHead c) rest (connective_byte c) s.1 b.1 (sym b.2)
  head_bytes l at (AtomHead a ps) rest s =
      let b = atom_bytes l at a ps rest s in
      let byte : get_or l at 0 ≡ 5 = b.byte in
      record {
        inside = omega arith;
        known = omega arith;
        parts = rw byte refl;
        bare = λ m. absurd (omega arith);
        named = λ _. (b.inside, rw b.name b.below);
        atom = λ _. (a, ps, b);
        quantified = λ m. absurd (omega arith);
      }
  head_bytes l at (QuantifiedHead q x t) rest s =
      let b = quantified_bytes l at q x t rest s in
      let r = quantifier_byte_lem q in
      let byte : get_or l at 0 ≡ quantifier_byte q = b.byte in
      record {
        inside = omega arith;
        known = omega arith;
        parts = rw byte (sym r.2);
        bare = λ m. absurd (omega arith);
        named = λ _. (omega arith, rw b.object b.object_below);
        atom = λ m. absurd (omega arith);
        quantified = λ _. (q, x, t, b);
      }

  -- where the bytes are those of no head
  pub headless : (l : List ℕ) (at : ℕ) → ((h : Head) (rest : List ℕ) → HeadBytes l at h rest → ⊥) → Absent (head_coding names) l at
  headless l at none h rest s = none h rest (head_bytes l at h rest s)

  -- the head of a byte below 5
  bare_head : (b : ℕ) → b < 5 → (h : Head) × CodableHead names h × (encode_head h ≡ b ∷ [])
  unfolding CodableHead encode_head
  bare_head zero k = (TrueHead, tt, refl)
  bare_head (suc zero) k = (FalseHead, tt, refl)
  bare_head (suc (suc b)) k =
      let (c, e) = connective_of (suc (suc b)) (omega arith) k in (BinaryHead c, tt, ap (λ (n : ℕ). n ∷ []) (sym e))

  module _ (l : List ℕ) (at : ℕ) where
    -- a byte below 5, an atom, a quantifier: the head that the bytes at a position are
    pub bare_stands : at < length l → get_or l at 0 < 5 → (h : Head) × HeadAt l at h (drop (at + 1) l)
    unfolding Stands
    bare_stands k b =
        let (h, g, e) = bare_head (get_or l at 0) b in
        (h, (g, byte_stands l at (at + 1) (omega arith) k ∙ ap (λ (s : List ℕ). s ++ drop (at + 1) l) (sym e)))

    module _ (bytes : Bytes l) (below : number_at l (at + 1) < names) where
      pub atom_stands : (ps : List (PropParameter ℕ)) (rest : List ℕ) → at + 4 ≤ length l → get_or l at 0 ≡ 5 → get_or l (at + 3) 0 ≤ parameter_limit
          → Stands (parameters_coding names (get_or l (at + 3) 0)) l (at + 4) ps rest → HeadAt l at (AtomHead (number_at l (at + 1)) ps) rest
      unfolding Stands Several CodableHead encode_head u16
      atom_stands ps rest k b few (g, e) =
          let head = byte_stands l at (at + 1) (omega arith) (omega arith) in
          let name = number_stands l (at + 1) (at + 3) (omega arith) bytes (omega arith) in
          let count = byte_stands l (at + 3) (at + 4) (omega arith) (omega arith) in
          let counted : length ps ≡ get_or l (at + 3) 0 = g.1 in
          ((below, rw counted few, g.0), cc)

      pub quantified_stands : at + 5 ≤ length l → 5 < get_or l at 0 → get_or l at 0 < 8 → number_at l (at + 3) < names
          → (h : Head) × HeadAt l at h (drop (at + 5) l)
      unfolding Stands CodableHead encode_head u16
      quantified_stands k low high datatype_below =
          let (q, b) = quantifier_of (get_or l at 0) low high in
          let head = byte_stands l at (at + 1) (omega arith) (omega arith) in
          let object = number_stands l (at + 1) (at + 3) (omega arith) bytes (omega arith) in
          let datatype = number_stands l (at + 3) (at + 5) (omega arith) bytes (omega arith) in
          (QuantifiedHead q (number_at l (at + 1)) (number_at l (at + 3)), ((below, datatype_below), cc))

      -- an atom ends where its parameters end
      atom_end : (r : ℕ) → at + 4 ≤ length l → get_or l at 0 ≡ 5 → get_or l (at + 3) 0 ≤ parameter_limit
          → Ends (parameters_coding names (get_or l (at + 3) 0)) l (at + 4) r → Ends (head_coding names) l at r
      unfolding Stands Several encode_head u16
      atom_end r k b few ends = record {
        starts = record {
          value = AtomHead (number_at l (at + 1)) ends.starts.value;
          rest = ends.starts.rest;
          stands = atom_stands ends.starts.value ends.starts.rest k b few ends.starts.stands;
        };
        found = λ h rest s.
            let (a, ps, t) = (head_bytes l at h rest s).atom b in
            let p = t.parameters in
            omega
            (arith, ends.found ps rest p, extent l at (encode_head h) rest (omega arith) s.1, extent l (at + 4) (encode_parameters ps) rest k p.1);
        inside = ends.inside;
      }

      -- without parameters there is no atom
      no_atom : get_or l at 0 ≡ 5 → Absent (parameters_coding names (get_or l (at + 3) 0)) l (at + 4) → Absent (head_coding names) l at
      no_atom b none h rest s = let (a, ps, t) = (head_bytes l at h rest s).atom b in none ps rest t.parameters

      pub atom_ends : (o : Option ℕ) → at + 4 ≤ length l → get_or l at 0 ≡ 5 → get_or l (at + 3) 0 ≤ parameter_limit
          → EndIfAny (parameters_coding names (get_or l (at + 3) 0)) l (at + 4) o → EndIfAny (head_coding names) l at o
      atom_ends None k b few none = no_atom b none
      atom_ends (Some r) k b few ends = atom_end r k b few ends
