-- What a list that begins with known bytes from a position on has at that position, and the other way round.
use Prim.Native.Nat.{ℕ, zero, suc, max, ◌+◌, ◌*◌, ◌/◌, ◌%◌, ◌≤◌, ◌<◌}
use mathlib.Core.Path.{◌≡◌, sym, ap, ◌∙◌}
use mathlib.Core.List.{List, [], ◌∷◌, ◌++◌}
use native.Mathlib.Omega.{arith}
use native.Mathlib.Numerals.{add-one}
use lib.ListN.{length, drop, get_or, length-append, length-drop}
use lib.Seq.{drop-cons, drop-drop, drop-append_seam}
use Rattle.definitions.specs.Sheet.{number_at}
use Rattle.definitions.specs.Code.{u16}
use Rattle.definitions.proofs.Readings.{Bytes}

-- what stands after a list that stands at a position
pub after : (l : List ℕ) (at : ℕ) (s rest : List ℕ) → drop at l ≡ s ++ rest → drop (at + length s) l ≡ rest
after l at s rest e = sym (drop-drop (length s) at l) ∙ ap (drop (length s)) e ∙ drop-append_seam s rest

-- how long the list then is
pub extent : (l : List ℕ) (at : ℕ) (s rest : List ℕ) → at ≤ length l → drop at l ≡ s ++ rest → at + length s + length rest ≡ length l
extent l at s rest h e = omega (arith, simp (length-append, length-drop) at (ap length e))

-- A byte, and what stands after it at the next position.
pub byte_stands : (l : List ℕ) (i j : ℕ) → j ≡ i + 1 → i < length l → drop i l ≡ get_or l i 0 ∷ drop j l
byte_stands l i j e h = rw (e, add-one) (drop-cons l i 0 h)

pub record Byte (l : List ℕ) (i j b : ℕ) (rest : List ℕ) : Type 0 where
  pub inside : i < length l
  pub value : get_or l i 0 ≡ b
  pub next : drop j l ≡ rest

pub byte_at : (l : List ℕ) (i j b : ℕ) (rest : List ℕ) → j ≡ i + 1 → drop i l ≡ b ∷ rest → Byte l i j b rest
byte_at l i j b rest n e =
    let h : i < length l = omega (arith, simp length-drop at (ap length e)) in
    let d = byte_stands l i j n h in
    record { inside = h; value = cc; next = cc }

-- A number, and what stands after it two positions on.
pub number_stands : (l : List ℕ) (i j : ℕ) → j ≡ i + 2 → Bytes l → i + 2 ≤ length l → drop i l ≡ u16 (number_at l i) ++ drop j l
unfolding u16 number_at
number_stands l i j e bytes h =
    let low : (get_or l i 0 + 256 * get_or l (i + 1) 0) % 256 ≡ get_or l i 0 = omega (arith, bytes i) in
    let high : (get_or l i 0 + 256 * get_or l (i + 1) 0) / 256 ≡ get_or l (i + 1) 0 = omega (arith, bytes i) in
    let first = byte_stands l i (i + 1) (omega arith) (omega arith) in
    let second = byte_stands l (i + 1) j (omega arith) (omega arith) in
    cc

pub record Number (l : List ℕ) (i j n : ℕ) (rest : List ℕ) : Type 0 where
  pub inside : i + 2 ≤ length l
  pub value : number_at l i ≡ n
  pub next : drop j l ≡ rest

pub number_at_lem : (l : List ℕ) (i j n : ℕ) (rest : List ℕ) → j ≡ i + 2 → drop i l ≡ u16 n ++ rest → Number l i j n rest
unfolding u16 number_at
number_at_lem l i j n rest e d =
    let first = byte_at l i (i + 1) (n % 256) (n / 256 ∷ rest) (omega arith) d in
    let second = byte_at l (i + 1) j (n / 256) rest (omega arith) first.next in
    record { inside = omega (arith, second.inside); value = omega (arith, first.value, second.value); next = second.next }

-- no entry of a table is above its largest
abbrev pub largest : List ℕ → ℕ
largest [] = 0
largest (n ∷ ns) = max n (largest ns)

pub entry_below : (ns : List ℕ) (i : ℕ) → get_or ns i 0 ≤ largest ns
entry_below [] i = omega arith
entry_below (n ∷ ns) zero = omega arith
entry_below (n ∷ ns) (suc i) = omega (arith, entry_below ns i)
