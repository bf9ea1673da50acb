-- What the header and each refusal that does not come give to the checks after them.
use Prim.Native.Nat.{ℕ, ◌*◌, ◌<◌, ◌≤◌}
use mathlib.Core.Path.{◌≡◌, ap, ◌∙◌}
use mathlib.Core.Bool.{false}
use mathlib.Core.List.{List}
use native.Mathlib.Omega.{arith}
use native.Mathlib.Nat.{le_refl}
use lib.ListN.{length}
use Rattle.definitions.specs.Code.{decode}
use Rattle.definitions.specs.Sheet as sheet
use Rattle.definitions.specs.Sheet.{name_limit, proposition_limit, step_limit, pair_size, step_size, name_length_limit, text_length, code_length, name_pairs, text_bytes, proposition_pairs, code_bytes, step_records, marked}
use Rattle.definitions.specs.Admission.{is_none, bad_name_pair, bad_proposition_pair, bad_code}
use Rattle.number.specs.Pairs.{NameWithin}
use Rattle.sheet.specs.declared.header.Sheet.{Sheet}
use Rattle.sheet.specs.Header.{header_of, InRange, HasHeader}
use Rattle.sheet.specs.Pairs.{GoodPair, HasPairs, HasCodes}
use Rattle.sheet.proofs.Slices.{lengths}
use Rattle.sheet.proofs.Placed.{good_pair, name_pairs_alike, proposition_pairs_alike}

-- good pairs lie within the bytes
pub good_pairs : {pairs bytes : List ℕ} {count size longest : ℕ} → length pairs ≡ pair_size * count → length bytes ≡ size
    → ((i : ℕ) → i < count → GoodPair pairs size longest i) → HasPairs pairs bytes count
good_pairs p b good = record { present = omega arith; ends = λ i h. omega (arith, (good i h).within) }

-- so each marks a part of them
pub pair_within : {pairs bytes : List ℕ} {count i : ℕ} → HasPairs pairs bytes count → i < count → NameWithin pairs bytes i
unfolding pair_size
pair_within has l = record { present = omega (arith, has.present); ends = has.ends _ l }

-- and where each marks a code, that part is one
pub code_at : {names count i : ℕ} {pairs code : List ℕ} → HasCodes names pairs code count → i < count
    → is_none (decode names (marked pairs code i)) ≡ false
unfolding bad_code
code_at has l = has.decoded _ l

-- 4 did not come
pub good_name_pair : (s : List ℕ) (i : ℕ) → bad_name_pair (name_pairs s) (text_length s) i ≡ false
    → GoodPair (name_pairs s) (text_length s) name_length_limit i
good_name_pair s i e =
    good_pair _ _ _ i (ap (λ bad. bad i) (name_pairs_alike (name_pairs s) (text_length s)) ∙ e)

-- 6 did not come
pub good_proposition_pair : (s : List ℕ) (i : ℕ) → bad_proposition_pair (proposition_pairs s) (code_length s) i ≡ false
    → GoodPair (proposition_pairs s) (code_length s) (code_length s) i
good_proposition_pair s i e =
    good_pair _ _ _ i
    (ap (λ bad. bad i) (proposition_pairs_alike (proposition_pairs s) (code_length s) (code_length s) (le_refl _)) ∙ e)

module _ {s : List ℕ} {h : Sheet} (has : HasHeader s h) where
  in_range : InRange (header_of s)
  in_range = rw has.header at has.in_range

  -- the pairs and the steps are there
  pub name_pairs_present : pair_size * h.names ≤ length (name_pairs s)
  unfolding header_of
  name_pairs_present = rw has.header (omega (arith, (lengths s has.whole).name_pairs))

  pub proposition_pairs_present : pair_size * h.propositions ≤ length (proposition_pairs s)
  unfolding header_of
  proposition_pairs_present = rw has.header (omega (arith, (lengths s has.whole).proposition_pairs))

  pub steps_present : step_size * h.steps ≤ length (step_records s)
  unfolding header_of
  steps_present = rw has.header (omega (arith, (lengths s has.whole).step_records))

  -- so every place fits a refusal
  pub names_fit : sheet.names s ≤ 65536
  unfolding header_of name_limit
  names_fit = omega (arith, in_range.names)

  pub propositions_fit : sheet.propositions s ≤ 65536
  unfolding header_of proposition_limit
  propositions_fit = omega (arith, in_range.propositions)

  pub steps_fit : sheet.steps s ≤ 65536
  unfolding header_of step_limit
  steps_fit = omega (arith, in_range.steps)

  -- 4 did not come
  pub has_name_pairs : ((i : ℕ) → i < sheet.names s → bad_name_pair (name_pairs s) (text_length s) i ≡ false)
      → HasPairs (name_pairs s) (text_bytes s) h.names
  unfolding header_of
  has_name_pairs passed =
      rw has.header
      (good_pairs (lengths s has.whole).name_pairs (lengths s has.whole).text_bytes
      (λ i l. good_name_pair s i (passed i l)))

  -- 6 did not come
  pub has_proposition_pairs : ((i : ℕ) → i < sheet.propositions s
      → bad_proposition_pair (proposition_pairs s) (code_length s) i ≡ false)
      → HasPairs (proposition_pairs s) (code_bytes s) h.propositions
  unfolding header_of
  has_proposition_pairs passed =
      rw has.header
      (good_pairs (lengths s has.whole).proposition_pairs (lengths s has.whole).code_bytes
      (λ i l. good_proposition_pair s i (passed i l)))

  -- nor did 7
  pub has_codes : HasPairs (proposition_pairs s) (code_bytes s) h.propositions
      → ((i : ℕ) → i < sheet.propositions s → bad_code (sheet.names s) (proposition_pairs s) (code_bytes s) i ≡ false)
      → HasCodes h.names (proposition_pairs s) (code_bytes s) h.propositions
  unfolding header_of
  has_codes pairs passed = rw has.header (record { pairs_within = rw has.header at pairs; decoded = passed })
