-- A refusal's line is short.
use Prim.Native.Nat.{ℕ, zero, suc, ◌/◌, ◌^◌, ◌≤◌, ◌<◌}
use mathlib.Core.Bool.{Bool, true, false, cond}
use mathlib.Core.Logic.{by_cases}
use mathlib.Core.List.{[], ◌++◌}
use native.Mathlib.Omega.{arith}
use native.Mathlib.Decide.{dec_lt}
use lib.ListN.{length, length-append}
use Rattle.definitions.specs.declared.Located.{Located}
use Rattle.definitions.specs.Utf8.{utf8}
use Rattle.definitions.specs.Text.{last_digit, decimal}
use Rattle.definitions.specs.Answers.{names_step, column_words, refusal_line}
use Rattle.definitions.proofs.Decimal.{decimal_below_ten, decimal_from_ten}

-- a number below ten to the k + 1 has at most k + 1 digits
decimal_length : (k n : ℕ) → n < 10 ^ suc k → length (decimal n) ≤ suc k
unfolding last_digit
decimal_length zero n h = rw (decimal_below_ten n h) (omega arith)
decimal_length (suc k) n h = by_cases (dec_lt n 10)
    (λ l. rw (decimal_below_ten n l) (omega arith))
    (λ l. rw (decimal_from_ten n (omega arith), length-append) (omega (arith, decimal_length k (n / 10) (omega arith))))

module _ (l : Located) (column : l.column < 65536) where
  -- ` column 65535` is 13 bytes
  column_words_length : length (column_words l) ≤ 13
  unfolding column_words
  column_words_length = go (names_step l.refusal)
    where
      go : (b : Bool) → length (cond b (utf8 " column " ++ decimal l.column) []) ≤ 13
      go true = simp length-append (omega (arith, decimal_length 4 l.column (omega arith)))
      go false = omega arith

  -- `refused 255 at 65535 column 65535` and a newline are 34 bytes
  pub refusal_line_length : l.refusal.number < 256 → l.refusal.place < 65536 → length (refusal_line l) ≤ 34
  unfolding refusal_line
  refusal_line_length number place =
      simp length-append
      (omega (arith, decimal_length 2 l.refusal.number (omega arith), decimal_length 4 l.refusal.place (omega arith), column_words_length))
