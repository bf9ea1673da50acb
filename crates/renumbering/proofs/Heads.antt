-- What is written for a head: a byte below 5 is one by itself, an atom has a name and parameters, a quantifier two names.
use Prim.Native.Nat.{ℕ, ◌+◌, ◌<◌}
use mathlib.Core.Path.{◌≡◌, refl}
use mathlib.Core.List.{List, [], ◌∷◌}
use native.Mathlib.Omega.{arith}
use lib.ListN.{get_or, length-map}
use Rattle.definitions.specs.Sheet.{number_at}
use Rattle.definitions.specs.Prop.{PropParameter, Quantifier, connective_byte}
use Rattle.definitions.specs.Code.{u16}
use Rattle.output.specs.SinkLaws.{SinkLaws}
use Rattle.prefix_code.specs.Scan.{Stands, parameters_coding}
use Rattle.prefix_code.specs.Head.{Head, TrueHead, FalseHead, BinaryHead, AtomHead, QuantifiedHead, encode_head, head_coding}
use Rattle.prefix_code.proofs.Positions.{byte_at}
use Rattle.prefix_code.proofs.Heads.{HeadAt, HeadBytes, head_bytes, AtomBytes, atom_bytes, QuantifiedBytes, quantified_bytes, connective_byte_lem, quantifier_byte_lem}
use Rattle.renumbering.specs.Renumbered.{mapped, rename_head, rename_parameters, Standing, Renumbers}

module _ (names : ℕ) (code : List ℕ) (at : ℕ) where
  -- an atom stands there
  pub record AtomThere (h : Head) (rest : List ℕ) : Type 0 where
    pub name : ℕ
    pub parameters : List (PropParameter ℕ)
    pub is : h ≡ AtomHead name parameters
    pub bytes : AtomBytes names code at name parameters rest

  -- a quantifier stands there
  pub record QuantifierThere (h : Head) (rest : List ℕ) : Type 0 where
    pub quantifier : Quantifier
    pub object : ℕ
    pub datatype : ℕ
    pub is : h ≡ QuantifiedHead quantifier object datatype
    pub bytes : QuantifiedBytes names code at quantifier object datatype rest

  bare_text : (f : ℕ → ℕ) (h : Head) (rest : List ℕ) → HeadAt names code at h rest → get_or code at 0 < 5
      → encode_head (rename_head f h) ≡ get_or code at 0 ∷ []
  unfolding Stands encode_head rename_head
  bare_text f TrueHead rest s k = rw (byte_at code at (at + 1) 0 rest (omega arith) s.1).value
  bare_text f FalseHead rest s k = rw (byte_at code at (at + 1) 1 rest (omega arith) s.1).value
  bare_text f (BinaryHead c) rest s k = rw (byte_at code at (at + 1) (connective_byte c) rest (omega arith) s.1).value
  bare_text f (AtomHead a ps) rest s k = absurd (omega (arith, (atom_bytes names code at a ps rest s).byte))
  bare_text f (QuantifiedHead q x t) rest s k =
      absurd (omega (arith, (quantified_bytes names code at q x t rest s).byte, quantifier_byte_lem q))

  pub atom_there : (h : Head) (rest : List ℕ) → HeadAt names code at h rest → get_or code at 0 ≡ 5 → AtomThere h rest
  unfolding Stands encode_head
  atom_there TrueHead rest s k = absurd (omega (arith, (byte_at code at (at + 1) 0 rest (omega arith) s.1).value))
  atom_there FalseHead rest s k = absurd (omega (arith, (byte_at code at (at + 1) 1 rest (omega arith) s.1).value))
  atom_there (BinaryHead c) rest s k =
      absurd (omega (arith, (byte_at code at (at + 1) (connective_byte c) rest (omega arith) s.1).value, connective_byte_lem c))
  atom_there (AtomHead a ps) rest s k = record { name = a; parameters = ps; is = refl; bytes = atom_bytes names code at a ps rest s }
  atom_there (QuantifiedHead q x t) rest s k =
      absurd (omega (arith, (quantified_bytes names code at q x t rest s).byte, quantifier_byte_lem q))

  pub quantifier_there : (h : Head) (rest : List ℕ) → HeadAt names code at h rest → 5 < get_or code at 0 → QuantifierThere h rest
  unfolding Stands encode_head
  quantifier_there TrueHead rest s k = absurd (omega (arith, (byte_at code at (at + 1) 0 rest (omega arith) s.1).value))
  quantifier_there FalseHead rest s k = absurd (omega (arith, (byte_at code at (at + 1) 1 rest (omega arith) s.1).value))
  quantifier_there (BinaryHead c) rest s k =
      absurd (omega (arith, (byte_at code at (at + 1) (connective_byte c) rest (omega arith) s.1).value, connective_byte_lem c))
  quantifier_there (AtomHead a ps) rest s k = absurd (omega (arith, (atom_bytes names code at a ps rest s).byte))
  quantifier_there (QuantifiedHead q x t) rest s k =
      record { quantifier = q; object = x; datatype = t; is = refl; bytes = quantified_bytes names code at q x t rest s }

-- of the head that stands there
module _ (names : ℕ) {code : List ℕ} {at : ℕ} (s : Standing (head_coding names) code at) where
  pub head_at : HeadBytes names code at s.value s.rest
  head_at = head_bytes names code at s.value s.rest s.stands

  pub atom_at : get_or code at 0 ≡ 5 → AtomThere names code at s.value s.rest
  atom_at = atom_there names code at s.value s.rest s.stands

  pub quantifier_at : 5 < get_or code at 0 → QuantifierThere names code at s.value s.rest
  quantifier_at = quantifier_there names code at s.value s.rest s.stands

  -- the parameters of an atom
  pub parameters_at : get_or code at 0 ≡ 5 → Standing (parameters_coding names (get_or code (at + 3) 0)) code (at + 4)
  parameters_at k =
      let a = atom_at k in
      record { value = a.parameters; rest = s.rest; inside = a.bytes.inside; stands = a.bytes.parameters }

module _ (names : ℕ) {code : List ℕ} {at : ℕ} (numbers : List ℕ) {S : Type 0} {puts : S → List ℕ → S → Type 0} (laws : SinkLaws puts) {before first : S}
    (w : puts before (get_or code at 0 ∷ []) first) where
  pub bare_written : get_or code at 0 < 5 → Renumbers (head_coding names) rename_head code at numbers puts before first
  bare_written k = record { put = λ h rest s. rw (bare_text names code at (mapped numbers) h rest s k) w }

  module _ {second : S} (v : puts first (u16 (mapped numbers (number_at code (at + 1)))) second) where
    pub atom_written : get_or code at 0 ≡ 5 → {third fourth : S}
        → puts second (get_or code (at + 3) 0 ∷ []) third
        → Renumbers (parameters_coding names (get_or code (at + 3) 0)) rename_parameters code (at + 4) numbers puts third fourth
        → Renumbers (head_coding names) rename_head code at numbers puts before fourth
    unfolding encode_head rename_head rename_parameters
    atom_written k u ps = record {
      put = λ h rest s.
          let a = atom_there names code at h rest s k in
          let b = a.bytes in
          let joined = laws.then (rw k at w) (laws.then v (laws.then u (ps.put a.parameters rest b.parameters))) in
          rw (a.is, length-map, ← b.count, ← b.name) joined;
    }

    pub quantifier_written : 5 < get_or code at 0 → {third : S}
        → puts second (u16 (mapped numbers (number_at code (at + 3)))) third
        → Renumbers (head_coding names) rename_head code at numbers puts before third
    unfolding encode_head rename_head
    quantifier_written k u = record {
      put = λ h rest s.
          let a = quantifier_there names code at h rest s k in
          let b = a.bytes in
          rw (a.is, ← b.byte, ← b.object, ← b.datatype) (laws.then w (laws.then v u));
    }
