-- The digits of a number: how many there are, and how they are stored from the last one back.
use Prim.Native.Nat.{ℕ, zero, suc, ◌+◌, ◌-◌, ◌*◌, ◌/◌, ◌%◌, ◌^◌, ◌≤◌, ◌<◌, max}
use mathlib.Core.Path.{◌≡◌, refl, sym, ◌∙◌}
use mathlib.Core.Logic.{by_cases}
use mathlib.Core.List.{List, [], ◌++◌, append_assoc, append-nil}
use native.Mathlib.Omega.{arith}
use native.Mathlib.Decide.{dec_lt}
use native.Mathlib.Nat.{pow-suc, pow-le-pow_right}
use native.Mathlib.Numerals.{add-one}
use lib.ListN.{length, set, take, drop, length-append, length-set, length-take}
use Rattle.std.proofs.lemmas.List.{drop-set}
use lib.Seq.{drop-length}
use Rattle.std.proofs.lemmas.Grind.{pow_more}
use Rattle.definitions.specs.Text.{last_digit, decimal}
use Rattle.definitions.proofs.Decimal.{decimal_below_ten, decimal_from_ten}
use Rattle.output.specs.LeastDigits.{LeastDigits}

pub one_digit : (n : ℕ) → n < 10 → length (decimal n) ≡ 1
unfolding last_digit
one_digit n h = rw (decimal_below_ten n h)

pub one_more_digit : (n : ℕ) → 10 ≤ n → length (decimal n) ≡ length (decimal (n / 10)) + 1
unfolding last_digit
one_more_digit n h = rw (decimal_from_ten n h) (length-append (decimal (n / 10)) (last_digit n))

-- so many digits hold the number
holding : (more n : ℕ) → n < more → n < 10 ^ length (decimal n)
holding zero n h = absurd (omega arith)
holding (suc more) n h = by_cases (dec_lt n 10)
    (λ small. rw (one_digit n small) (omega arith))
    (λ large.
    let again = holding more (n / 10) (omega arith) in
    rw (one_more_digit n (omega arith), add-one, pow-suc) (omega arith))

-- and as many are needed, where one is written in any case
needed : (more n k : ℕ) → n < more → n < 10 ^ suc k → length (decimal n) ≤ suc k
needed zero n k h l = absurd (omega arith)
needed (suc more) n zero h l = omega (arith, one_digit n (omega arith))
needed (suc more) n (suc k) h l = by_cases (dec_lt n 10)
    (λ small. omega (arith, one_digit n small))
    (λ large.
    let held : n < 10 ^ suc k * 10 = rw pow-suc at l in
    let again = needed more (n / 10) k (omega arith) (omega arith) in
    omega (arith, one_more_digit n (omega arith)))

pub least_digits : (n : ℕ) → LeastDigits n (length (decimal n))
least_digits n =
    record {
      some = by_cases (dec_lt n 10)
          (λ small. omega (arith, one_digit n small))
          (λ large. omega (arith, one_more_digit n (omega arith)));
      holds = holding (suc n) n (omega arith);
      least = λ k some holds.
          let less : suc (k - 1) ≡ k = omega arith in
          rw less at (needed (suc n) n (k - 1) (omega arith) (rw less holds));
    }

-- there is one least count: the length of the decimal
pub least_is_length : {n count : ℕ} → LeastDigits n count → count ≡ length (decimal n)
least_is_length {n} {count} l =
    let d = least_digits n in
    let up = l.least (length (decimal n)) d.some d.holds in
    let down = d.least count l.some l.holds in
    omega arith

-- a number of 64 bits has at most twenty
pub at_most_twenty : {n count : ℕ} → n < 2 ^ 64 → LeastDigits n count → count ≤ 20
at_most_twenty h l = l.least 20 (omega arith) (omega arith)

-- so many of a long list
pub taken_whole : (l : List ℕ) {count : ℕ} → count ≤ length l → count ≡ length (take count l)
taken_whole l {count} h = omega (arith, length-take count l)

-- and 1 for 0
pub digits_of_zero : {count : ℕ} → LeastDigits 0 count → count ≡ 1
digits_of_zero l = least_is_length l ∙ one_digit 0 (omega arith)

-- the digits of a number are one more than the greatest power of ten within it, and 0 has as many as 1
pub least_count : (n power : ℕ) → 10 ^ power ≤ max n 1 → max n 1 < 10 * 10 ^ power → LeastDigits n (power + 1)
least_count n power low high =
    record {
      some = omega arith;
      holds = rw pow_more (omega arith);
      least = λ k some holds. by_cases (dec_lt power k)
          (λ more. omega arith)
          (λ l.
          let ten : 10 ^ 1 ≤ 10 ^ k = pow-le-pow_right (omega arith) some in
          let within : 10 ^ k ≤ 10 ^ power = pow-le-pow_right (omega arith) (omega arith) in
          absurd (omega arith));
    }

-- the last so many digits of a number
pub last_digits : ℕ → ℕ → List ℕ
last_digits zero n = []
last_digits (suc count) n = last_digits count (n / 10) ++ last_digit n

last_digits_length : (count n : ℕ) → length (last_digits count n) ≡ count
unfolding last_digits last_digit
last_digits_length zero n = refl
last_digits_length (suc count) n =
    length-append (last_digits count (n / 10)) (last_digit n) ∙ rw (last_digits_length count (n / 10), add-one)

-- all digits of a number are its last ones
whole : (more n : ℕ) → n < more → last_digits (length (decimal n)) n ≡ decimal n
unfolding last_digits
whole zero n h = absurd (omega arith)
whole (suc more) n h = by_cases (dec_lt n 10)
    (λ small. rw (one_digit n small, decimal_below_ten n small))
    (λ l.
    let large : 10 ≤ n = omega arith in
    rw (one_more_digit n large, add-one, whole more (n / 10) (omega arith)) (sym (decimal_from_ten n large)))

-- From number i on the digits are stored, and those before it are the last digits of the rest.
pub record Stored (n i rest : ℕ) (after : List ℕ) : Type 0 where
  pub sized : length after ≡ length (decimal n)
  pub reached : i ≤ length after
  pub digits : decimal n ≡ last_digits i rest ++ drop i after

-- none yet
pub starts : (n : ℕ) (out : List ℕ) → LeastDigits n (length out) → Stored n (length out) n out
starts n out least =
    let sized = least_is_length least in
    record { sized = sized; reached = omega arith; digits = rw (drop-length, append-nil, sized) (sym (whole (suc n) n (omega arith))) }

-- a digit is left
pub one_left : {n i rest : ℕ} {after : List ℕ} → 0 < i → Stored n i rest after → Stored n (suc (i - 1)) rest after
one_left {i = i} h st = let less : suc (i - 1) ≡ i = omega arith in rw less st

-- one more, from the last one back
pub digit_stored : {n i rest : ℕ} {after : List ℕ} → Stored n (suc i) rest after
    → Stored n i (rest / 10) (set after i (48 + rest % 10))
unfolding last_digits last_digit
digit_stored {n} {i} {rest} {after} st =
    let same = length-set after i (48 + rest % 10) in
    record {
      sized = same ∙ st.sized;
      reached = omega (arith, st.reached);
      digits = rw (drop-set after i (48 + rest % 10) (omega (arith, st.reached)), add-one) (rw append_assoc at st.digits);
    }

-- all of them
pub all_stored : {n rest : ℕ} {after : List ℕ} → Stored n 0 rest after → after ≡ decimal n
unfolding last_digits
all_stored st = sym st.digits
