-- Pieces appended to marked bytes without gaps: the earlier ones stay as they were, and each new one is what it was.
use Prim.Native.Nat.{ℕ, zero, suc, ◌+◌, ◌*◌, ◌-◌, ◌≤◌, ◌<◌}
use mathlib.Core.Path.{◌≡◌, refl, sym, ap, ap₂, ◌∙◌}
use mathlib.Core.List.{List, [], ◌∷◌, ◌++◌, append_assoc}
use native.Mathlib.Omega.{arith}
use native.Mathlib.Decide.{dec_lt}
use lib.ListN.{length, get_or, take, drop, length-append, length-drop, get_or-append}
use lib.Seq.{get_or-append-add, take-append-le, drop-append-le, take-append_seam, drop-append_seam}
use Rattle.definitions.specs.Code.{u16}
use Rattle.definitions.specs.Sheet.{pair_size, number_at, pair_offset, pair_length, pair_end, last_end, marked}
use Rattle.definitions.specs.Encode.{concat, encode_pairs}
use Rattle.definitions.proofs.PrefixCode.{split_number}

-- numbers of the first of two lists, and of the second
number_first : (a b : List ℕ) (i : ℕ) → i + 1 < length a → number_at (a ++ b) i ≡ number_at a i
unfolding number_at
number_first a b i h = rw (get_or-append a b 0 i (omega arith), get_or-append a b 0 (i + 1) h)

number_second : (a b : List ℕ) (i : ℕ) → number_at (a ++ b) (length a + i) ≡ number_at b i
unfolding number_at
number_second a b i =
    let z : (length a + i) + 1 ≡ length a + (i + 1) = omega arith in
    rw (z, get_or-append-add a b i 0, get_or-append-add a b (i + 1) 0)

-- what an earlier pair marks stays
pub marked_first : (pairs more text extra : List ℕ) (i : ℕ) → pair_size * (i + 1) ≤ length pairs → pair_end pairs i ≤ length text
    → marked (pairs ++ more) (text ++ extra) i ≡ marked pairs text i
unfolding marked pair_offset pair_length pair_end pair_size
marked_first pairs more text extra i h e =
    rw (number_first pairs more (4 * i) (omega arith), number_first pairs more (4 * i + 2) (omega arith))
    (ap (take (number_at pairs (4 * i + 2))) (drop-append-le (number_at pairs (4 * i)) text extra (omega arith))
    ∙ take-append-le (number_at pairs (4 * i + 2)) (drop (number_at pairs (4 * i)) text) extra
    (rw (length-drop (number_at pairs (4 * i)) text) (omega arith)))

-- what a later pair marks is what it marks among the later pairs
pub marked_second : (pairs more text : List ℕ) (n i : ℕ) → length pairs ≡ pair_size * n → marked (pairs ++ more) text (n + i) ≡ marked more text i
unfolding marked pair_offset pair_length pair_size
marked_second pairs more text n i e =
    let z : 4 * (n + i) ≡ length pairs + 4 * i = omega arith in
    let z' : (length pairs + 4 * i) + 2 ≡ length pairs + (4 * i + 2) = omega arith in
    rw (z, z', number_second pairs more (4 * i), number_second pairs more (4 * i + 2))

first_piece : (before l pairs rest : List ℕ) → marked (u16 (length before) ++ (u16 (length l) ++ pairs)) (before ++ (l ++ rest)) 0 ≡ l
unfolding marked pair_offset pair_length pair_size number_at u16
first_piece before l pairs rest =
    rw (split_number (length before), split_number (length l), drop-append_seam before (l ++ rest)) (take-append_seam l rest)

next_piece : (a b : ℕ) (pairs text : List ℕ) (i : ℕ) → marked (u16 a ++ (u16 b ++ pairs)) text (suc i) ≡ marked pairs text i
unfolding u16 pair_size
next_piece a b pairs text i =
    let z : 1 + i ≡ suc i = omega arith in
    rw z at (marked_second (u16 a ++ u16 b) pairs text 1 i refl)

-- each piece is marked by its pair
pub marked_written : (before : List ℕ) (ls : List (List ℕ)) (i : ℕ) → i < length ls
    → marked (encode_pairs (length before) ls) (before ++ concat ls) i ≡ get_or ls i []
unfolding encode_pairs concat
marked_written before [] i h = absurd (omega arith)
marked_written before (l ∷ ls) zero h = first_piece before l (encode_pairs (length before + length l) ls) (concat ls)
marked_written before (l ∷ ls) (suc i) h =
    next_piece (length before) (length l) (encode_pairs (length before + length l) ls) (before ++ (l ++ concat ls)) i
    ∙ rw (← (length-append before l), ← (append_assoc before l (concat ls))) (marked_written (before ++ l) ls i (omega arith))

-- how long the pairs of some pieces are
pub length_pairs : (from : ℕ) (ls : List (List ℕ)) → length (encode_pairs from ls) ≡ pair_size * length ls
unfolding encode_pairs u16 pair_size
length_pairs from [] = refl
length_pairs from (l ∷ ls) = omega (arith, length_pairs (from + length l) ls)

is_end : (pairs : List ℕ) (i : ℕ) → pair_end pairs i ≡ pair_offset pairs i + pair_length pairs i
unfolding pair_end
is_end pairs i = refl

first_pair : (from : ℕ) (l pairs rest : List ℕ) → (pair_length (u16 from ++ (u16 (length l) ++ pairs)) 0 ≡ length l)
    × (pair_end (u16 from ++ (u16 (length l) ++ pairs)) 0 ≤ from + length (l ++ rest)) × (from ≤ pair_offset (u16 from ++ (u16 (length l) ++ pairs)) 0)
unfolding pair_end pair_offset pair_length pair_size number_at u16
first_pair from l pairs rest = (split_number (length l), omega (arith, length-append l rest), omega arith)

later_pair : (a b : ℕ) (pairs : List ℕ) (i : ℕ) → (pair_length (u16 a ++ (u16 b ++ pairs)) (suc i) ≡ pair_length pairs i)
    × (pair_offset (u16 a ++ (u16 b ++ pairs)) (suc i) ≡ pair_offset pairs i)
unfolding pair_offset pair_length pair_size u16
later_pair a b pairs i =
    let z : 4 * suc i ≡ 4 + 4 * i = omega arith in
    let z' : (4 + 4 * i) + 2 ≡ 4 + (4 * i + 2) = omega arith in
    (rw (z, z') (number_second (u16 a ++ u16 b) pairs (4 * i + 2)), rw z (number_second (u16 a ++ u16 b) pairs (4 * i)))

-- the pairs of pieces: each starts where the last one ends, and ends within the bytes
pub offset_written : (from : ℕ) (ls : List (List ℕ)) (i : ℕ) → i < length ls
    → (pair_length (encode_pairs from ls) i ≡ length (get_or ls i [])) × (pair_end (encode_pairs from ls) i ≤ from + length (concat ls))
    × (from ≤ pair_offset (encode_pairs from ls) i)
unfolding encode_pairs concat
offset_written from [] i h = absurd (omega arith)
offset_written from (l ∷ ls) zero h = first_pair from l (encode_pairs (from + length l) ls) (concat ls)
offset_written from (l ∷ ls) (suc i) h =
    let x = offset_written (from + length l) ls i (omega arith) in
    let y = later_pair from (length l) (encode_pairs (from + length l) ls) i in
    (y.0 ∙ x.0, omega (arith, y.0, y.1, x.1, length-append l (concat ls), is_end (encode_pairs (from + length l) ls) i, is_end (u16 from ++ (u16 (length l) ++ encode_pairs (from + length l) ls)) (suc i)), omega (arith, y.1, x.2))

-- the numbers of an earlier pair, and of a later one
pub first_offset : (pairs more : List ℕ) (i : ℕ) → pair_size * (i + 1) ≤ length pairs → pair_offset (pairs ++ more) i ≡ pair_offset pairs i
unfolding pair_offset pair_size
first_offset pairs more i h = number_first pairs more (4 * i) (omega arith)

pub first_length : (pairs more : List ℕ) (i : ℕ) → pair_size * (i + 1) ≤ length pairs → pair_length (pairs ++ more) i ≡ pair_length pairs i
unfolding pair_length pair_size
first_length pairs more i h = number_first pairs more (4 * i + 2) (omega arith)

pub second_offset : (pairs more : List ℕ) (n i : ℕ) → length pairs ≡ pair_size * n → pair_offset (pairs ++ more) (n + i) ≡ pair_offset more i
unfolding pair_offset pair_size
second_offset pairs more n i e = let z : 4 * (n + i) ≡ length pairs + 4 * i = omega arith in rw z (number_second pairs more (4 * i))

pub second_length : (pairs more : List ℕ) (n i : ℕ) → length pairs ≡ pair_size * n → pair_length (pairs ++ more) (n + i) ≡ pair_length more i
unfolding pair_length pair_size
second_length pairs more n i e =
    let z : 4 * (n + i) + 2 ≡ length pairs + (4 * i + 2) = omega arith in rw z (number_second pairs more (4 * i + 2))

-- a written pair starts where the one before it ends
starts_first : (from : ℕ) (ls : List (List ℕ)) → 0 < length ls → pair_offset (encode_pairs from ls) 0 ≡ from
unfolding encode_pairs pair_offset pair_size number_at u16
starts_first from [] h = absurd (omega arith)
starts_first from (l ∷ ls) h = split_number from

first_end : (a b : ℕ) (pairs : List ℕ) → pair_end (u16 a ++ (u16 b ++ pairs)) 0 ≡ a + b
unfolding pair_end pair_offset pair_length pair_size number_at u16
first_end a b pairs = omega arith

starts_next : (from : ℕ) (ls : List (List ℕ)) (i : ℕ) → suc i < length ls → pair_offset (encode_pairs from ls) (suc i) ≡ pair_end (encode_pairs from ls) i
unfolding encode_pairs
starts_next from [] i h = absurd (omega arith)
starts_next from (l ∷ []) i h = absurd (omega arith)
starts_next from (l ∷ l' ∷ ls) zero h =
    (later_pair from (length l) (encode_pairs (from + length l) (l' ∷ ls)) 0).1
    ∙ (starts_first (from + length l) (l' ∷ ls) (omega arith) ∙ sym (first_end from (length l) (encode_pairs (from + length l) (l' ∷ ls))))
starts_next from (l ∷ l' ∷ ls) (suc i) h =
    let y = later_pair from (length l) (encode_pairs (from + length l) (l' ∷ ls)) in
    (y (suc i)).1
    ∙ (starts_next (from + length l) (l' ∷ ls) i (omega arith)
    ∙ (is_end (encode_pairs (from + length l) (l' ∷ ls)) i ∙ (ap₂ ◌+◌ (sym (y i).1) (sym (y i).0) ∙ sym (is_end (u16 from ++ (u16 (length l) ++ encode_pairs (from + length l) (l' ∷ ls))) (suc i)))))

is_last : (pairs : List ℕ) (m : ℕ) → last_end pairs (suc m) ≡ pair_end pairs m
unfolding last_end
is_last pairs m = refl

-- pairs with pieces appended are placed well: sorted, and within the bytes
module _ (pairs : List ℕ) (n from : ℕ) (ls : List (List ℕ)) (bytes : ℕ) (size : length pairs ≡ pair_size * n)
    (placed : (i : ℕ) → i < n → (last_end pairs i ≤ pair_offset pairs i) × (pair_end pairs i ≤ from)) (room : from + length (concat ls) ≤ bytes) where
  abbrev all : List ℕ
  all = pairs ++ encode_pairs from ls

  first_ends : (i : ℕ) → i < n → pair_end all i ≡ pair_end pairs i
  unfolding pair_end pair_size
  first_ends i l = ap₂ ◌+◌ (first_offset pairs (encode_pairs from ls) i (omega arith)) (first_length pairs (encode_pairs from ls) i (omega arith))

  second_ends : (i : ℕ) → pair_end all (n + i) ≡ pair_end (encode_pairs from ls) i
  unfolding pair_end
  second_ends i = ap₂ ◌+◌ (second_offset pairs (encode_pairs from ls) n i size) (second_length pairs (encode_pairs from ls) n i size)

  first_last : (i : ℕ) → i < n → last_end all i ≡ last_end pairs i
  unfolding last_end
  first_last zero l = refl
  first_last (suc i) l = first_ends i (omega arith)

  -- where the last of the earlier pairs ends
  seam : (m : ℕ) → m ≡ n → last_end all m ≤ from
  unfolding last_end
  seam zero e = omega arith
  seam (suc m) e = rw (first_ends m (omega arith)) (placed m (omega arith)).1

  second_last : (i : ℕ) → i < length ls → last_end all (n + i) ≤ pair_offset all (n + i)
  second_last zero l =
      let z : n + 0 ≡ n = omega arith in
      omega (arith, second_offset pairs (encode_pairs from ls) n 0 size, starts_first from ls l, seam (n + 0) z)
  second_last (suc i) l =
      let z : n + suc i ≡ suc (n + i) = omega arith in
      omega (arith, second_offset pairs (encode_pairs from ls) n (suc i) size, starts_next from ls i l, ap (last_end all) z, last_suc (n + i), second_ends i)
    where
      last_suc : (m : ℕ) → last_end all (suc m) ≡ pair_end all m
      last_suc m = is_last all m

  pub placed_all : (i : ℕ) → i < n + length ls → (last_end all i ≤ pair_offset all i) × (pair_end all i ≤ bytes)
  unfolding pair_size
  placed_all i l = go (dec_lt i n)
    where
      go : Dec (i < n) → (last_end all i ≤ pair_offset all i) × (pair_end all i ≤ bytes)
      go (yes b) =
          let x = placed i b in
          (omega (arith, first_last i b, first_offset pairs (encode_pairs from ls) i (omega arith), x.0), omega (arith, first_ends i b, x.1))
      go (no b) =
          let j = i - n in
          let z : n + j ≡ i = omega arith in
          let r : (last_end all (n + j) ≤ pair_offset all (n + j)) × (pair_end all (n + j) ≤ bytes) =
          (second_last j (omega arith), omega (arith, second_ends j, (offset_written from ls j (omega arith)).1)) in
          rw z at r
