-- One byte is put in front of code that is stored.
use Prim.Native.Nat.{ℕ, zero, suc, ◌+◌, ◌-◌, ◌≤◌, ◌<◌, min}
use mathlib.Core.Path.{◌≡◌, refl, sym, ap, ◌∙◌}
use mathlib.Core.Logic.{by_cases}
use mathlib.Core.List.{List, [], ◌∷◌, ◌++◌, append_assoc}
use native.Mathlib.Omega.{arith}
use native.Mathlib.Decide.{dec_le}
use lib.ListN.{length, get_or, set, take, drop, length-set, length-take, length-drop}
use Rattle.std.proofs.lemmas.List.{drop-drop}
use Rattle.std.specs.List.{copy_within}
use lib.Seq.{sets, take-suc, take-take, length-sets, drop-cons, drop-set-lt, set-set, get_or-set_same, get_or-set_other}
use Rattle.output.proofs.Writing.{sets_past, fitting_part, stored_part}
use Rattle.atom_reader.proofs.Storing.{set_sets}
use Rattle.prop_frames.specs.Sides.{inserted}

-- One byte is put in front: at each place stands what stood before it.
module _ (l : List ℕ) (at carry : ℕ) where
  pub insert_step : (n : ℕ) → at < length l → 0 < n
      → inserted l at n carry ≡ inserted (set l at carry) (at + 1) (n - 1) (get_or l at 0)
  unfolding inserted
  insert_step zero h k = absurd (omega arith)
  insert_step (suc m) h k =
      let less : suc m - 1 ≡ m = omega arith in
      let next : at + 1 ≡ suc at = omega arith in
      rw (less, next, drop-cons l at 0 h, drop-set-lt (suc at) l at carry (omega arith))

  pub insert_past : (n : ℕ) → length l ≤ at → inserted l at n carry ≡ l
  unfolding inserted
  insert_past n h = sets_past l at (carry ∷ take n (drop at l)) h

  pub insert_last : inserted l at 0 carry ≡ set l at carry
  unfolding inserted
  insert_last = refl

-- What has room moves up by one, and the byte is stored in the place that is left.
set_behind : (front rest : List ℕ) (z b : ℕ) → set (front ++ (z ∷ rest)) (length front) b ≡ front ++ (b ∷ rest)
set_behind [] rest z b = refl
set_behind (a ∷ front) rest z b = ap (λ l. a ∷ l) (set_behind front rest z b)

module _ (l : List ℕ) (to b : ℕ) (inside : to < length l) where
  first_stored : (t rest : List ℕ) → set ((take (to + 1) l ++ t) ++ rest) to b ≡ take to l ++ (b ∷ (t ++ rest))
  first_stored t rest =
      let here : length (take to l) ≡ to = omega (arith, length-take to l) in
      let next : to + 1 ≡ suc to = omega arith in
      rw (next, take-suc l to 0 inside, append_assoc (take to l ++ (get_or l to 0 ∷ [])) t rest, append_assoc (take to l) (get_or l to 0 ∷ []) (t ++ rest))
      (rw here at (set_behind (take to l) (t ++ rest) (get_or l to 0) b))

  moved_by : {n : ℕ} {moved : List ℕ} (size k : ℕ) → n ≡ k → suc k ≡ min (length l - to) (suc size)
      → moved ≡ (take (to + 1) l ++ take n (drop to l)) ++ drop (to + 1 + n) l → set moved to b ≡ inserted l to size b
  unfolding inserted
  moved_by size k e room moves =
      let text = b ∷ take size (drop to l) in
      let cut : b ∷ take k (drop to l) ≡ take (suc k) text = ap (λ t. b ∷ t) (sym (take-take k size (drop to l) (omega arith))) in
      let sized : length (b ∷ take k (drop to l)) ≡ suc k = omega (arith, length-take k (drop to l), length-drop to l) in
      let behind : drop (to + 1 + k) l ≡ drop (suc k) (drop to l) =
      let sum : to + 1 + k ≡ to + suc k = omega arith in
      rw sum (sym (drop-drop (suc k) to l)) in
      fitting_part l to text {fit = suc k} (omega (arith, length-take size (drop to l), length-drop to l))
      (rw (moves, e, first_stored (take k (drop to l)) (drop (to + 1 + k) l), behind)
      (stored_part to (suc k) l (b ∷ take k (drop to l)) (sym sized) (omega arith) ∙ ap (sets l to) cut))

  pub moved_up : {last : ℕ} {moved : List ℕ} (size : ℕ) → last ≡ min (length l - 1) (to + size)
      → moved ≡ copy_within l to last (to + 1) → set moved to b ≡ inserted l to size b
  moved_up {last} size e moves = moved_by size (last - to) refl (omega arith) moves

-- what stands before a run of stores
get_d_sets : (l : List ℕ) (i j : ℕ) (s : List ℕ) → i < j → get_or (sets l j s) i 0 ≡ get_or l i 0
get_d_sets l i j [] h = refl
get_d_sets l i j (b ∷ s) h = get_d_sets (set l j b) i (suc j) s (omega arith) ∙ get_or-set_other l j i b 0 (λ e. absurd (omega arith))

-- to put a byte in front of what was stored is to store it with the byte in front
insert_sets : (s l : List ℕ) (to b : ℕ) → inserted (sets l to s) to (length s) b ≡ sets l to (b ∷ s)
insert_sets [] l to b = insert_last l to b
insert_sets (y ∷ s) l to b = by_cases (dec_le (length l) to)
    (λ h. ap (λ m. inserted m to (length (y ∷ s)) b) (sets_past l to (y ∷ s) h)
    ∙ (insert_past l to b (length (y ∷ s)) h ∙ sym (sets_past l to (b ∷ y ∷ s) h)))
    (λ h.
    let mid = sets (set l to y) (suc to) s in
    let inside : to < length mid = omega (arith, length-sets (set l to y) (suc to) s, length-set l to y) in
    let byte : get_or mid to 0 ≡ y = get_d_sets (set l to y) to (suc to) s (omega arith) ∙ get_or-set_same l to y 0 (omega arith) in
    let less : length (y ∷ s) - 1 ≡ length s = omega arith in
    let next : to + 1 ≡ suc to = omega arith in
    let front : set mid to b ≡ sets (set l to b) (suc to) s =
    set_sets (set l to y) to (suc to) b s (omega arith) ∙ ap (λ m. sets m (suc to) s) (set-set l to y b) in
    insert_step mid to b (length (y ∷ s)) inside (omega arith)
    ∙ rw (less, next, byte, front) (insert_sets s (set l to b) (suc to) y))

pub insert_stored : (l : List ℕ) (to : ℕ) (s : List ℕ) (b size : ℕ) → size ≡ length s
    → inserted (sets l to s) to size b ≡ sets l to (b ∷ s)
insert_stored l to s b size e = rw e (insert_sets s l to b)
