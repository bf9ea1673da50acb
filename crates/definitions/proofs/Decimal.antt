-- A decimal is the decimal of the number without its last digit, and then that digit: the bound on the digits plays no part.
use Prim.Native.Nat.{ℕ, zero, suc, ◌/◌, ◌≤◌, ◌<◌}
use mathlib.Core.Path.{◌≡◌, ap}
use mathlib.Core.List.{◌++◌}
use native.Mathlib.Omega.{arith}
use native.Mathlib.Decide.{dec_lt}
use borrow.Author.Tests.{lt-ltb, le-ltb}
use Rattle.definitions.specs.Text.{last_digit, digits, decimal}

-- any two bounds above the number give the same digits
digits_enough : (most more n : ℕ) → n < most → n < more → digits most n ≡ digits more n
unfolding digits
digits_enough zero more n h k = absurd (omega arith)
digits_enough (suc most) zero n h k = absurd (omega arith)
digits_enough (suc most) (suc more) n h k = go (dec_lt n 10) (digits_enough most more (n / 10))
  where
    go :
        Dec (n < 10) →
        (n / 10 < most → n / 10 < more → digits most (n / 10) ≡ digits more (n / 10)) →
        digits (suc most) n ≡ digits (suc more) n
    go (yes l) again = rw (digits, lt-ltb n 10 l)
    go (no l) again = rw (digits, le-ltb n 10 (omega arith), again (omega arith) (omega arith))

pub decimal_below_ten : (n : ℕ) → n < 10 → decimal n ≡ last_digit n
unfolding decimal digits
decimal_below_ten n h = rw (lt-ltb n 10 h)

pub decimal_from_ten : (n : ℕ) → 10 ≤ n → decimal n ≡ decimal (n / 10) ++ last_digit n
unfolding decimal digits
decimal_from_ten n h =
    rw (le-ltb n 10 h)
    (ap (λ front. front ++ last_digit n) (digits_enough n (suc (n / 10)) (n / 10) (omega arith) (omega arith)))
