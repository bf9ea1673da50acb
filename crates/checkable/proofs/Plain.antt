-- A proposition is quantifier-free where each of its heads is plain.
use Prim.Native.Nat.{ℕ, ◌+◌, ◌≤◌, ◌<◌}
use mathlib.Core.Path.{◌≡◌, refl, sym, ap, ◌∙◌}
use mathlib.Core.Bool.{Bool, true, false, ◌&&◌}
use mathlib.Core.List.{List, [], ◌∷◌, ◌++◌, flat_map}
use native.Mathlib.Omega.{arith}
use lib.ListN.{length, drop, get_or, length-append, length-drop}
use Rattle.definitions.specs.Prop.{Prop, True, False, Binary, Atom, Quantified, PropParameter, connective_byte, Quantifier}
use Rattle.definitions.specs.Code.{encode, Codable}
use Rattle.definitions.specs.Sound.{all_instantiated, is_quantifier_free}
use Rattle.definitions.proofs.PrefixCode.{code_nonempty}
use Rattle.prefix_code.specs.Scan.{Stands, Starts, Ends, parameters_coding}
use Rattle.prefix_code.specs.Head.{Head, TrueHead, FalseHead, BinaryHead, AtomHead, QuantifiedHead, encode_head, head_coding}
use Rattle.prefix_code.proofs.Positions.{byte_at}
use Rattle.prefix_code.proofs.Heads.{head_bytes, atom_bytes, quantified_bytes, connective_byte_lem, quantifier_byte_lem}
use Rattle.renumbering.specs.Renumbered.{Whole}
use Rattle.prefix_code.specs.Row.{encode_row}
use Rattle.prefix_code.proofs.Rows.{head_of, parts}
use Rattle.renumbering.proofs.Rows.{RowAt, FirstHead, first_head, whole_row}
use Rattle.checkable.specs.Plain.{is_plain_head, SomeParameters, SomeHead}

module _ (names : ℕ) (before : List ℕ) (at : ℕ) where
  -- which head stands there, by its byte
  first_byte : (b : ℕ) (rest : List ℕ) → drop at before ≡ b ∷ rest → get_or before at 0 ≡ b
  first_byte b rest e = (byte_at before at (at + 1) b rest refl e).value

  pub the_atom : (h : Head) (rest : List ℕ) → Stands (head_coding names) before at h rest → get_or before at 0 ≡ 5
      → (a : ℕ) × (ps : List (PropParameter ℕ)) × (h ≡ AtomHead a ps)
  unfolding Stands encode_head
  the_atom TrueHead rest s k = absurd (omega (arith, first_byte 0 rest s.1))
  the_atom FalseHead rest s k = absurd (omega (arith, first_byte 1 rest s.1))
  the_atom (BinaryHead c) rest s k = absurd (omega (arith, first_byte (connective_byte c) rest s.1, connective_byte_lem c))
  the_atom (AtomHead a ps) rest s k = (a, ps, refl)
  the_atom (QuantifiedHead q x t) rest s k =
      absurd (omega (arith, (quantified_bytes names before at q x t rest s).byte, quantifier_byte_lem q))

  pub the_quantifier : (h : Head) (rest : List ℕ) → Stands (head_coding names) before at h rest → 5 < get_or before at 0
      → (q : Quantifier) × (x t : ℕ) × (h ≡ QuantifiedHead q x t)
  unfolding Stands encode_head
  the_quantifier TrueHead rest s k = absurd (omega (arith, first_byte 0 rest s.1))
  the_quantifier FalseHead rest s k = absurd (omega (arith, first_byte 1 rest s.1))
  the_quantifier (BinaryHead c) rest s k = absurd (omega (arith, first_byte (connective_byte c) rest s.1, connective_byte_lem c))
  the_quantifier (AtomHead a ps) rest s k = absurd (omega (arith, (atom_bytes names before at a ps rest s).byte))
  the_quantifier (QuantifiedHead q x t) rest s k = (q, x, t, refl)

-- A head by its byte.
module _ (code : List ℕ) (at : ℕ) where
  pub plain_bare : get_or code at 0 < 5 → (names : ℕ) (h : Head) (rest : List ℕ) → Stands (head_coding names) code at h rest → true ≡ is_plain_head h
  unfolding is_plain_head
  plain_bare k names TrueHead rest s = refl
  plain_bare k names FalseHead rest s = refl
  plain_bare k names (BinaryHead c) rest s = refl
  plain_bare k names (AtomHead a ps) rest s = absurd (omega (arith, (atom_bytes names code at a ps rest s).byte))
  plain_bare k names (QuantifiedHead q x t) rest s =
      absurd (omega (arith, (quantified_bytes names code at q x t rest s).byte, quantifier_byte_lem q))

  pub no_plain_quantifier : 5 < get_or code at 0 → (names : ℕ) (h : Head) (rest : List ℕ) → Stands (head_coding names) code at h rest → false ≡ is_plain_head h
  unfolding is_plain_head
  no_plain_quantifier k names h rest s = let (q, x, t, e) = the_quantifier names code at h rest s k in rw e refl

  -- an atom's parameters
  pub atom_inside : SomeHead code at → get_or code at 0 ≡ 5 → (at + 4 ≤ length code) × SomeParameters (get_or code (at + 3) 0) code (at + 4)
  atom_inside s k =
      let (a, ps, e) = the_atom s.names code at s.value s.rest s.stands k in
      let b = atom_bytes s.names code at a ps s.rest (rw e at s.stands) in
      (b.inside, record { names = s.names; value = ps; rest = s.rest; inside = b.inside; stands = b.parameters })

  pub plain_atom : get_or code at 0 ≡ 5 → (r : Bool)
      → ((names : ℕ) (ps : List (PropParameter ℕ)) (rest : List ℕ) → Stands (parameters_coding names (get_or code (at + 3) 0)) code (at + 4) ps rest → r ≡ all_instantiated ps)
      → (names : ℕ) (h : Head) (rest : List ℕ) → Stands (head_coding names) code at h rest → r ≡ is_plain_head h
  unfolding is_plain_head
  plain_atom k r f names h rest s =
      let (a, ps, e) = the_atom names code at h rest s k in
      let b = atom_bytes names code at a ps rest (rw e at s) in
      rw e (f names ps rest b.parameters)

  pub some_known : SomeHead code at → get_or code at 0 < 8
  some_known s = (head_bytes s.names code at s.value s.rest s.stands).known

  pub some_inside : SomeHead code at → at < length code
  some_inside s = (head_bytes s.names code at s.value s.rest s.stands).inside

-- all of them are quantifier-free
abbrev all_free : List (Prop ℕ) → Bool
all_free [] = true
all_free (p ∷ ps) = is_quantifier_free p && all_free ps

and_assoc : (a b c : Bool) → (a && b) && c ≡ a && (b && c)
and_assoc true b c = refl
and_assoc false b c = refl

and_true : (a : Bool) → a ≡ a && true
and_true true = refl
and_true false = refl

free_append : (ps qs : List (Prop ℕ)) → all_free (ps ++ qs) ≡ all_free ps && all_free qs
free_append [] qs = refl
free_append (p ∷ ps) qs = ap (λ (b : Bool). is_quantifier_free p && b) (free_append ps qs) ∙ sym (and_assoc (is_quantifier_free p) (all_free ps) (all_free qs))

free_parts : (p : Prop ℕ) → is_quantifier_free p ≡ is_plain_head (head_of p) && all_free (parts p)
unfolding is_quantifier_free is_plain_head
free_parts True = refl
free_parts False = refl
free_parts (Binary c p q) = ap (λ (b : Bool). is_quantifier_free p && b) (and_true (is_quantifier_free q))
free_parts (Atom a ps) = and_true (all_instantiated ps)
free_parts (Quantified q x t p) = refl

-- the propositions that are left decide
pub record Looking (names : ℕ) (code : List ℕ) (i : ℕ) : Type 0 where
  pub inside : i ≤ length code
  pub left : (p : Prop ℕ) → Codable names p → code ≡ encode p → (ps : List (Prop ℕ)) × RowAt names code i ps × (is_quantifier_free p ≡ all_free ps)

pub looking_start : {names : ℕ} {code : List ℕ} → Looking names code 0
looking_start = record { inside = omega arith; left = λ p g e. (p ∷ [], whole_row g e, and_true (is_quantifier_free p)) }

module _ {names : ℕ} {code : List ℕ} {i : ℕ} (w : Looking names code i) (l : i < length code) where
  ahead : (p : Prop ℕ) → Codable names p → code ≡ encode p → (ps : List (Prop ℕ)) × FirstHead names code i ps × (is_quantifier_free p ≡ all_free ps)
  ahead p g e = let (ps, r, same) = w.left p g e in (ps, first_head names code i ps l r, same)

  pub looking_starts : Whole names code → Starts (head_coding names) code i
  looking_starts v =
      let (ps, f, same) = ahead v.value v.codable v.coded in
      record { value = head_of f.proposition; rest = encode_row (parts f.proposition ++ f.others); stands = f.stands }

  pub looking_head : Whole names code → SomeHead code i
  looking_head v = let head = looking_starts v in record { names = names; value = head.value; rest = head.rest; stands = head.stands }

  module _ {r : Bool} (plain : (names : ℕ) (h : Head) (rest : List ℕ) → Stands (head_coding names) code i h rest → r ≡ is_plain_head h) where
    -- a head that is not plain
    pub looking_stop : r ≡ false → (p : Prop ℕ) → Codable names p → code ≡ encode p → false ≡ is_quantifier_free p
    looking_stop other p g e =
        let (ps, f, same) = ahead p g e in
        let head = plain names (head_of f.proposition) (encode_row (parts f.proposition ++ f.others)) f.stands in
        let free : is_quantifier_free f.proposition ≡ false = free_parts f.proposition ∙ ap (λ (b : Bool). b && all_free (parts f.proposition)) (sym head ∙ other) in
        sym (same ∙ ap all_free f.is ∙ ap (λ (b : Bool). b && all_free f.others) free)

    -- a plain head: its parts are left
    pub looking_next : r ≡ true → {j : ℕ} → Ends (head_coding names) code i j → Looking names code j
    looking_next is {j} ends = record {
      inside = ends.inside;
      left = λ p g e.
          let (ps, f, same) = ahead p g e in
          let q = f.proposition in
          let rest = encode_row (parts q ++ f.others) in
          let head = plain names (head_of q) rest f.stands in
          let here = ends.found (head_of q) rest f.stands in
          let free : is_quantifier_free q ≡ all_free (parts q) = free_parts q ∙ ap (λ (b : Bool). b && all_free (parts q)) (sym head ∙ is) in
          (parts q ++ f.others, rw here f.behind, same ∙ ap all_free f.is ∙ ap (λ (b : Bool). b && all_free f.others) free ∙ sym (free_append (parts q) f.others));
    }

-- nothing is left
pub looking_end : {names : ℕ} {code : List ℕ} {i : ℕ} → Looking names code i → length code ≤ i → (p : Prop ℕ) → Codable names p → code ≡ encode p → true ≡ is_quantifier_free p
unfolding flat_map
looking_end {names} {code} {i} w l p g e = let (ps, r, same) = w.left p g e in sym (same ∙ go ps r)
  where
    go : (ps : List (Prop ℕ)) → RowAt names code i ps → all_free ps ≡ true
    go [] r = refl
    go (q ∷ qs) r = absurd (omega (arith, length-drop i code, ap length r.coded, length-append (encode q) (encode_row qs), code_nonempty q))
