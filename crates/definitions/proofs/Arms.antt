-- Which number is left for the last arm of a match over the first numbers.
use Prim.Native.Nat.{ℕ, zero, suc, ◌+◌, ◌≤◌, ◌<◌}
use mathlib.Core.Path.{◌≡◌}
use native.Mathlib.Omega.{arith}

-- none of the first numbers, as the match tells its last arm
abbrev pub Missed : ℕ → ℕ → Type 0
Missed zero x = Unit {0}
Missed (suc n) x = Missed n x × (x ≡ n → ⊥)

missed : (n : ℕ) {x : ℕ} → Missed n x → n ≤ x
missed zero h = omega arith
missed (suc n) h = let above = missed n h.0 in let apart = h.1 in omega arith

pub last_arm : (n : ℕ) {x : ℕ} → Missed n x → x < n + 1 → x ≡ n
last_arm n h below = let above = missed n h in omega arith
