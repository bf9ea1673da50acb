-- A pair is bad exactly where it is not good; what that says for refusals 4 and 6.
use Prim.Native.Nat.{ℕ, zero, suc, ◌+◌, ◌≤◌}
use mathlib.Core.Path.{◌≡◌, refl, sym, ◌∙◌, fun_ext}
use mathlib.Core.Bool.{Bool, true, false, or-false}
use mathlib.Core.List.{List}
use native.Mathlib.Omega.{arith}
use lib.Dec.{ltb, eqb}
use borrow.Author.Tests.{ltb-false, le-ltb, ne_eqb}
use Rattle.definitions.specs.Sheet.{name_length_limit, pair_offset, pair_length, pair_end, last_end}
use Rattle.definitions.specs.Admission.{misplaced, bad_name_pair, bad_proposition_pair}
use Rattle.sheet.specs.Pairs.{bad_pair, GoodPair}
use Rattle.std.proofs.lemmas.Bool.{or_parts, true_from_ne_false}

module _ (pairs : List ℕ) (bytes longest i : ℕ) where
  pub good_pair : bad_pair pairs bytes longest i ≡ false → GoodPair pairs bytes longest i
  unfolding bad_pair misplaced
  good_pair e =
      let (place, lengths) = or_parts _ _ e in
      let (sorted, within) = or_parts _ _ place in
      let (some_byte, not_too_long) = or_parts _ _ lengths in
      record {
        sorted = ltb-false _ _ sorted;
        within = ltb-false _ _ within;
        some_byte = ltb-false _ _ some_byte;
        not_too_long = ltb-false _ _ not_too_long;
      }

  pub good_passes : GoodPair pairs bytes longest i → bad_pair pairs bytes longest i ≡ false
  unfolding bad_pair misplaced
  good_passes g =
      simp
      (le-ltb _ _ g.sorted, le-ltb _ _ g.within, le-ltb _ _ g.some_byte, le-ltb _ _ g.not_too_long)

  pub bad_pair_lem : (GoodPair pairs bytes longest i → ⊥) → bad_pair pairs bytes longest i ≡ true
  bad_pair_lem refuted = true_from_ne_false _ (λ e. refuted (good_pair e))

-- refusal 4 asks for a length of 1 to 32
pub name_pairs_alike : (pairs : List ℕ) (bytes : ℕ) → bad_pair pairs bytes name_length_limit ≡ bad_name_pair pairs bytes
unfolding bad_pair bad_name_pair
name_pairs_alike pairs bytes = refl

-- a pair that is not misplaced is no longer than the bytes
no_longer : (pairs : List ℕ) (bytes i : ℕ) → misplaced pairs bytes i ≡ false → pair_length pairs i ≤ bytes
unfolding misplaced pair_end
no_longer pairs bytes i e =
    let ends = ltb bytes (pair_offset pairs i + pair_length pairs i) in
    let within : ends ≡ false = (or_parts (ltb (pair_offset pairs i) (last_end pairs i)) _ e).1 in
    omega (arith, ltb-false)

below_one : (n : ℕ) → ltb n 1 ≡ eqb n 0
below_one zero = refl
below_one (suc n) = le-ltb (suc n) 1 (omega arith) ∙ sym (ne_eqb (suc n) 0 (λ e. omega arith))

-- refusal 6 asks for one byte at least
pub proposition_pairs_alike : (pairs : List ℕ) (bytes longest : ℕ) → bytes ≤ longest
    → bad_pair pairs bytes longest ≡ bad_proposition_pair pairs bytes
unfolding bad_pair bad_proposition_pair
proposition_pairs_alike pairs bytes longest h = fun_ext (λ i. go i (misplaced pairs bytes i) refl)
  where
    go : (i : ℕ) (b : Bool) → misplaced pairs bytes i ≡ b
        → bad_pair pairs bytes longest i ≡ bad_proposition_pair pairs bytes i
    go i true e = rw e
    go i false e =
        let short : pair_length pairs i ≤ longest = omega (arith, no_longer pairs bytes i e) in
        rw (e, le-ltb longest (pair_length pairs i) short, or-false, below_one)
