-- What bytes are marked, whatever a pair says of them.
use Rattle.std.proofs.Common.{◌≡◌, ℕ, zero, suc, ◌+◌, ◌*◌, ◌<◌, ◌≤◌, List, [], ◌∷◌, length, take, drop, sym, refl, ◌∙◌, arith, length-drop, length-take, take_all}
use Prim.Native.Nat.{min}
use mathlib.Core.Logic.{by_cases}
use native.Mathlib.Decide.{dec_le}
use lib.ListN.{get_or-eq_default}
use lib.Seq.{take-nil}
use Rattle.definitions.specs.Sheet.{pair_size, number_at, pair_offset, pair_length, marked}
use Rattle.vocabulary.specs.declared.Vocabulary.{Vocabulary}
use Rattle.vocabulary.specs.Vocabulary.{pairs_in, text_in, name_in, Within}

-- past the end there is nothing
drop_past : (l : List ℕ) (n : ℕ) → length l ≤ n → drop n l ≡ []
drop_past [] zero h = refl
drop_past [] (suc n) h = refl
drop_past (a ∷ l) zero h = absurd (omega arith)
drop_past (a ∷ l) (suc n) h = drop_past l n (omega arith)

-- a part that ends no later than the bytes do
pub cut_is : (l : List ℕ) (start count : ℕ)
    → take (min count (length (drop (min start (length l)) l))) (drop (min start (length l)) l) ≡ take count (drop start l)
cut_is l start count = by_cases (dec_le start (length l))
    (λ h.
    let here : min start (length l) ≡ start = omega arith in
    rw here (by_cases (dec_le count (length (drop start l)))
    (λ k. let short : min count (length (drop start l)) ≡ count = omega arith in rw short refl)
    (λ k.
    let long : min count (length (drop start l)) ≡ length (drop start l) = omega arith in
    rw long (take_all (length (drop start l)) (drop start l) (omega arith) ∙ sym (take_all count (drop start l) (omega arith))))))
    (λ h.
    let past : min start (length l) ≡ length l = omega arith in
    rw (past, drop_past l (length l) (omega arith), drop_past l start (omega arith), take-nil count) (take-nil (min count 0)))

-- a number that has no pair marks nothing
no_pair : (pairs text : List ℕ) (i : ℕ) → length pairs ≤ pair_size * i → marked pairs text i ≡ []
unfolding marked pair_length number_at pair_size
no_pair pairs text i h =
    rw (get_or-eq_default pairs 0 {n = 4 * i + 2} (omega arith), get_or-eq_default pairs 0 {n = 4 * i + 2 + 1} (omega arith))

module _ (bytes : List ℕ) (v : Vocabulary) (w : Within bytes v) where
  -- four bytes for each name
  pub pairs_length : length (pairs_in bytes v) ≡ pair_size * v.name_count
  unfolding pairs_in
  pairs_length =
      omega (arith, w.pairs, length-take (pair_size * v.name_count) (drop v.pairs bytes), length-drop v.pairs bytes)

  pub no_name : (i : ℕ) → v.name_count ≤ i → [] ≡ name_in bytes v i
  unfolding name_in pair_size
  no_name i h = sym (no_pair (pairs_in bytes v) (text_in bytes v) i (omega (arith, pairs_length)))

  pub pair_there : (i : ℕ) → i < v.name_count → pair_size * (i + 1) ≤ length (pairs_in bytes v)
  unfolding pair_size
  pair_there i h = omega (arith, pairs_length)

  -- the bytes that its pair marks
  pub name_cut : {pairs text : List ℕ} (i : ℕ) {offset count : ℕ} → pairs ≡ pairs_in bytes v → text ≡ text_in bytes v
      → offset ≡ pair_offset pairs i → count ≡ pair_length pairs i → take count (drop offset text) ≡ name_in bytes v i
  unfolding name_in marked
  name_cut i its-pairs its_text here long = rw (here, long, its-pairs, its_text)
