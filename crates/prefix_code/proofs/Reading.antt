-- A proposition that stands at a position is the one that is read there, and the pair of a proposition says where it stands.
use Prim.Native.Nat.{ℕ, ◌+◌, ◌≤◌, ◌<◌}
use mathlib.Core.Path.{◌≡◌, refl, sym, ap, ◌∙◌}
use mathlib.Core.Logic.{by_cases}
use mathlib.Core.Bool.{false}
use Rattle.std.specs.Prelude.{unwrap_or, Option, None, Some}
use mathlib.Core.List.{List}
use native.Mathlib.Omega.{arith}
use native.Mathlib.Decide.{dec_lt}
use lib.ListN.{length, get_or, take, drop, length-take, length-drop, take-append-drop, get_or-eq_default}
use lib.Seq.{get_or-take, get_or-drop}
use Rattle.definitions.specs.Prop.{Prop, False}
use Rattle.definitions.specs.Code.{proposition, encode, decode, Codable}
use Rattle.definitions.specs.Sheet.{pair_offset, pair_length, pair_end, marked}
use Rattle.definitions.specs.Tree.{prop_in}
use Rattle.definitions.specs.Admission.{is_none}
use Rattle.definitions.proofs.PrefixCode.{Bytes, read_encode, encode_decode}
use Rattle.prefix_code.specs.Scan.{Stands, Starts, At, proposition_coding}
use Rattle.prefix_code.specs.Head.{head_coding}
use Rattle.prefix_code.specs.PropAt.{value_read, prop_at, Present}
use Rattle.prefix_code.proofs.Runs.{run_of}
use Rattle.prefix_code.proofs.Propositions.{codable_layer, head_run}
use Rattle.prefix_code.proofs.Forms.{inside_at, known_at}

module _ (names : ℕ) (l : List ℕ) (at : ℕ) (p : Prop ℕ) (rest : List ℕ) (s : At names l at p rest) where
  pub prop_at_lem : prop_at names l at ≡ p
  unfolding Stands prop_at value_read
  prop_at_lem =
      let inside = (inside_at names l at rest p s).1 in
      ap value_read (ap (proposition names (length l)) s.1 ∙ read_encode names (length l) p rest s.0 (omega arith))

  pub present : Present names l at
  present = record { rest = rest; stands = rw prop_at_lem s }

-- where a proposition is present its head starts
pub head_starts : {names : ℕ} {l : List ℕ} {at : ℕ} → Present names l at → Starts (head_coding names) l at
unfolding Stands
head_starts {names} {l} {at} h =
    let run = run_of (proposition_coding names) l at (prop_at names l at) h.rest h.stands in
    let (head, rest, g, e, r) = (head_run names (Codable names) (Codable names) (codable_layer names) (drop at l) h.rest).0 run in
    record { value = head; rest = rest; stands = (g, e) }

-- the code of a proposition lies within the bytes, and the byte in front of it is one of eight
pub record Inside (names : ℕ) (l : List ℕ) (at : ℕ) : Type 0 where
  pub start : at < length l
  pub end : at + length (encode (prop_at names l at)) ≤ length l
  pub known : get_or l at 0 < 8

pub inside : {names : ℕ} {l : List ℕ} {at : ℕ} → Present names l at → Inside names l at
inside {names} {l} {at} h =
    let (start, end) = inside_at names l at h.rest (prop_at names l at) h.stands in
    record { start = start; end = end; known = known_at names l at h.rest (prop_at names l at) h.stands }

-- bytes stay bytes in a part
pub part_bytes : (n k : ℕ) (l : List ℕ) → Bytes l → Bytes (take n (drop k l))
part_bytes n k l bytes i = by_cases (dec_lt i n)
    (λ h. rw (get_or-take n (drop k l) i 0 h, get_or-drop) (bytes (k + i)))
    (λ h. rw (get_or-eq_default (take n (drop k l)) 0 {n = i} (omega (arith, length-take n (drop k l)))) (omega arith))

pub is_some : {A : Type 0} (o : Option A) → is_none o ≡ false → (a : A) × (o ≡ Some a)
unfolding is_none
is_some None h = absurd (grind arith)
is_some (Some a) h = (a, refl)

-- Of a pair that marks the code of one proposition:
module _ (names : ℕ) (pairs code : List ℕ) (i : ℕ) (bytes : Bytes code) (coded : is_none (decode names (marked pairs code i)) ≡ false) where
  -- the proposition stands where the pair says, over the pair's whole length
  pub record Standing : Type 0 where
    pub rest : List ℕ
    pub stands : At names code (pair_offset pairs i) (prop_in names pairs code i) rest
    long : pair_end pairs i ≤ length code → length (encode (prop_in names pairs code i)) ≡ pair_length pairs i

  pub standing : Standing
  unfolding Stands marked prop_in pair_end
  standing =
      let (p, e) = is_some (decode names (marked pairs code i)) coded in
      let (same, codable) = encode_decode names (marked pairs code i) p (part_bytes (pair_length pairs i) (pair_offset pairs i) code bytes) e in
      let is : prop_in names pairs code i ≡ p = ap (λ (o : Option (Prop ℕ)). unwrap_or o False) e in
      record {
        rest = drop (pair_length pairs i) (drop (pair_offset pairs i) code);
        stands = rw (is, same) (codable, sym (take-append-drop (pair_length pairs i) (drop (pair_offset pairs i) code)));
        long = λ fits.
            let size : length (encode p) ≡ pair_length pairs i = omega (arith, ap length same, length-take (pair_length pairs i) (drop (pair_offset pairs i) code), length-drop (pair_offset pairs i) code) in
            rw is size;
      }

  -- it is the one that is read there
  pub prop_in_lem : prop_in names pairs code i ≡ prop_at names code (pair_offset pairs i)
  prop_in_lem = sym (prop_at_lem names code (pair_offset pairs i) (prop_in names pairs code i) standing.rest standing.stands)

  pub present_in : Present names code (pair_offset pairs i)
  present_in = present names code (pair_offset pairs i) (prop_in names pairs code i) standing.rest standing.stands

  pub size_in : pair_end pairs i ≤ length code → pair_offset pairs i + length (encode (prop_at names code (pair_offset pairs i))) ≡ pair_end pairs i
  unfolding pair_end
  size_in fits = rw (← prop_in_lem, standing.long fits) refl
