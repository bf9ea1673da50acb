-- A word ends after its name bytes, and expected bytes stand byte by byte.
use Prim.Native.Nat.{ℕ, suc, ◌+◌, ◌-◌, ◌<◌, ◌≤◌}
use mathlib.Core.Path.{◌≡◌, refl, sym, ap, ◌∙◌}
use mathlib.Core.Bool.{Bool, true, false, not, ◌&&◌, cond, true≢false, and-eq-true_iff}
use Rattle.std.specs.Prelude.{None, Some}
use Rattle.std.specs.List.{starts_with, position_or_len}
use Rattle.std.proofs.lemmas.Grind.{common_steps}
use Rattle.std.proofs.lemmas.List.Sums.{prefix_len-le-length}
use mathlib.Core.List.{List, [], ◌∷◌}
use native.Mathlib.Omega.{arith}
use lib.ListN.{length, take, drop, length-drop}
use lib.Seq.{drop-drop, take-length}
use lib.Dec.{eqb, ltb}
use Rattle.definitions.specs.Code.{Read, yield}
use Rattle.definitions.specs.Name.{byte_class, may_follow}
use Rattle.definitions.specs.TermReader.{word, longer, expect}
use Rattle.definitions.proofs.Readings.{given}
use Rattle.words.specs.Places.{between, WordEnds, Expected}

-- a byte that may not follow in a name
abbrev pub stops : ℕ → Bool
stops b = not (may_follow (byte_class b))

-- the word in front ends at the first such byte, or with the bytes
word_is : (s : List ℕ) → word s ≡ record { value = take (position_or_len stops s) s; rest = drop (position_or_len stops s) s }
unfolding word longer
word_is [] = refl
word_is (b ∷ s) = either (may_follow (byte_class b)) (word_is s)
  where
    either : (t : Bool) → word s ≡ record { value = take (position_or_len stops s) s; rest = drop (position_or_len stops s) s }
        → ◌≡◌ {A = Read (List ℕ)} (cond t (record { value = b ∷ (word s).value; rest = (word s).rest }) (record { value = []; rest = b ∷ s }))
        (record { value = take (cond (not (not t)) (1 + position_or_len stops s) 0) (b ∷ s); rest = drop (cond (not (not t)) (1 + position_or_len stops s) 0) (b ∷ s) })
    either true e =
        let more : 1 + position_or_len stops s ≡ suc (position_or_len stops s) = omega arith in
        rw (e, more) refl
    either false e = refl

-- where the search for it ends
module _ (first size : ℕ) where
  none_first : None ≡ cond (ltb first size) (Some first) None → size ≤ first
  none_first e = grind (arith, common_steps)

  some_first : (n : ℕ) → Some n ≡ cond (ltb first size) (Some first) None → (n ≡ first) × (first < size)
  some_first n e = grind (arith, common_steps)

-- bytes that stand in front, or others
expect_is : (what s : List ℕ) → expect what s ≡ cond (starts_with eqb s what) (given tt (drop (length what) s)) None
unfolding expect yield
expect_is [] s = refl
expect_is (b ∷ what) [] = refl
expect_is (b ∷ what) (c ∷ s) = either (eqb b c) (expect_is what s)
  where
    either : (t : Bool) → expect what s ≡ cond (starts_with eqb s what) (given tt (drop (length what) s)) None
        → cond t (expect what s) None ≡ cond (t && starts_with eqb s what) (given tt (drop (length what) s)) None
    either true e = e
    either false e = refl

starts_fits : (what s : List ℕ) → starts_with eqb s what ≡ true → length what ≤ length s
starts_fits [] s e = omega arith
starts_fits (b ∷ what) [] e = absurd (true≢false (sym e))
starts_fits (b ∷ what) (c ∷ s) e = omega (arith, starts_fits what s ((and-eq-true_iff (eqb b c) _).0 e).1)

-- The same at a place of the text.
module _ (text : List ℕ) (at : ℕ) (start : at ≤ length text) where
  part_length : length (drop at text) ≡ length text - at
  part_length = length-drop at text

  abbrev front : List ℕ
  front = take (length text - at) (drop at text)

  whole : front ≡ drop at text
  whole = rw (← part_length, take-length (drop at text))

  -- what the search for the end of the word finds
  abbrev size : ℕ
  size = position_or_len stops front

  word_ends : (n : ℕ) → n ≡ size → WordEnds text at (at + n)
  unfolding between
  word_ends n e =
      let same : n ≡ position_or_len stops (drop at text) = e ∙ ap (λ s. position_or_len stops s) whole in
      let long : n ≤ length text - at = rw (same, ← part_length) (prefix_len-le-length _ (drop at text)) in
      let part : at + n - at ≡ n = omega arith in
      record {
        from = omega arith;
        within = omega (arith, long);
        is = rw (part, same, ← drop-drop (position_or_len stops (drop at text)) at text) (word_is (drop at text));
      }

  pub word_stops : (n : ℕ) → Some n ≡ cond (ltb size (length front)) (Some size) None → WordEnds text at (at + n)
  word_stops n e = word_ends n (some_first size (length front) n e).0

  pub word_whole : None ≡ cond (ltb size (length front)) (Some size) None → WordEnds text at (length text)
  word_whole e =
      let most = none_first size (length front) e in
      let few = prefix_len-le-length (λ b. not (stops b)) front in
      let all : at + (length text - at) ≡ length text = omega arith in
      let long : length front ≡ length text - at = rw whole part_length in
      let last : length text - at ≡ size = omega (arith, most, few, long) in
      rw all at (word_ends (length text - at) last)

  -- the bytes that are expected stand there, or others
  pub expect_found : (what : List ℕ) → starts_with eqb front what ≡ true → Expected what text at (at + length what)
  expect_found what e =
      let starts : starts_with eqb (drop at text) what ≡ true = ap (λ s. starts_with eqb s what) (sym whole) ∙ e in
      record {
        within = omega (arith, starts_fits what (drop at text) starts, part_length);
        reads = rw (expect_is what (drop at text), starts, drop-drop (length what) at text);
        after = refl;
      }

  pub expect_fails : (what : List ℕ) → starts_with eqb front what ≡ false → expect what (drop at text) ≡ None
  expect_fails what e = rw (expect_is what (drop at text), ap (λ s. starts_with eqb s what) (sym whole) ∙ e)
