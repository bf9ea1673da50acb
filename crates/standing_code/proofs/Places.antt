-- What is stored later stands behind what was stored before.
use Prim.Native.Nat.{ℕ, ◌+◌, ◌-◌, ◌≤◌, ◌<◌}
use mathlib.Core.Path.{◌≡◌, refl, sym, ap, ◌∙◌}
use mathlib.Core.Logic.{by_cases}
use mathlib.Core.List.{List, [], ◌∷◌, ◌++◌, append_assoc}
use native.Mathlib.Omega.{arith}
use native.Mathlib.Decide.{dec_lt}
use lib.ListN.{length, take, drop, set, length-set, length-drop, length-append, take-append-drop}
use lib.Seq.{sets, sets-eq, length-sets, length-take-le, take_at, drop_at, take-append-le, drop-append-le, drop-drop, get_or-set_same, get_or-set_other}
use Rattle.definitions.specs.Prop.{Prop, rename_prop}
use Rattle.definitions.specs.Code.{encode, Codable}
use Rattle.definitions.specs.Sheet.{marked, pair_offset, pair_length, pair_end}
use Rattle.definitions.proofs.PrefixCode.{encode_injective}
use Rattle.renumbering.specs.Renumbered.{mapped}
use Rattle.standing_code.specs.Over.{code_space, Codes, CodeStands}
use Rattle.standing_code.proofs.Sizes.{same_long}

-- A text stored within a memory.
module _ (l text : List ℕ) (i : ℕ) (fits : i + length text ≤ length l) where
  front : length (take i l) ≡ i
  front = length-take-le i l (omega arith)

  stored : sets l i text ≡ take i l ++ (text ++ drop (i + length text) l)
  stored = sets-eq text l i fits ∙ append_assoc (take i l) text (drop (i + length text) l)

  pub there : take (length text) (drop i (sets l i text)) ≡ text
  there = rw (stored, drop_at (take i l) (text ++ drop (i + length text) l) i front) (take_at text (drop (i + length text) l) (length text) refl)

  pub before : (a n : ℕ) → a + n ≤ i → take n (drop a (sets l i text)) ≡ take n (drop a l)
  before a n h =
      let in-front : (rest : List ℕ) → take n (drop a (take i l ++ rest)) ≡ take n (drop a (take i l)) =
      λ rest. ap (take n) (drop-append-le a (take i l) rest (omega (arith, front))) ∙ take-append-le n (drop a (take i l)) rest (omega (arith, front, length-drop a (take i l))) in
      ap (λ (m : List ℕ). take n (drop a m)) stored
      ∙ in-front (text ++ drop (i + length text) l)
      ∙ sym (in-front (drop i l))
      ∙ ap (λ (m : List ℕ). take n (drop a m)) (take-append-drop i l)

  pub behind : (a : ℕ) → i + length text ≤ a → drop a (sets l i text) ≡ drop a l
  behind a h =
      let far : i + length text + (a - (i + length text)) ≡ a = omega arith in
      let past : drop (i + length text) (sets l i text) ≡ drop (i + length text) l =
      ap (drop (i + length text)) (sets-eq text l i fits) ∙ drop_at (take i l ++ text) (drop (i + length text) l) (i + length text) (length-append (take i l) text ∙ omega (arith, front)) in
      rw far at (sym (drop-drop (a - (i + length text)) (i + length text) (sets l i text)) ∙ ap (drop (a - (i + length text))) past ∙ drop-drop (a - (i + length text)) (i + length text) l)

-- The propositions below k stand over other names, and all past the code is as it was.
module _ {names : ℕ} {pairs code : List ℕ} {count : ℕ} {numbers first : List ℕ} (c : Codes names pairs code count numbers first) where
  pub record Below (k : ℕ) (out : List ℕ) : Type 0 where
    pub reached : k ≤ count
    pub long : length out ≡ length first
    pub over : (i : ℕ) → i < k → (p : Prop ℕ) → Codable names p → marked pairs code i ≡ encode p
        → take (pair_length pairs i) (drop (pair_offset pairs i) out) ≡ encode (rename_prop (mapped numbers) p)
    pub beyond : drop code_space out ≡ drop code_space first

  pub none_yet : Below 0 first
  none_yet = record { reached = omega arith; long = refl; over = λ i h. absurd (omega arith); beyond = refl }

  module _ {k : ℕ} {out : List ℕ} (b : Below k out) (l : k < count) where
    -- the pair marks as many bytes as its proposition has, before and after
    marked_long : (p : Prop ℕ) → marked pairs code k ≡ encode p → length (encode p) ≡ pair_length pairs k
    unfolding marked pair_end
    marked_long p e = sym (ap length e) ∙ length-take-le (pair_length pairs k) (drop (pair_offset pairs k) code)
        (rw length-drop (omega (arith, c.ends k l)))

    pub one_more : {after : List ℕ} {at : ℕ} {piece : List ℕ} → at ≡ pair_offset pairs k → piece ≡ marked pairs code k
        → ((p : Prop ℕ) → Codable names p → piece ≡ encode p → after ≡ sets out at (encode (rename_prop (mapped numbers) p)))
        → Below (k + 1) after
    unfolding pair_end
    one_more {after} {at} {piece} is cut put =
        let v = c.whole k l in
        let text = encode (rename_prop (mapped numbers) v.value) in
        let size : length text ≡ pair_length pairs k = same_long (mapped numbers) v.value ∙ marked_long v.value v.coded in
        let stored-so : after ≡ sets out (pair_offset pairs k) text = put v.value v.codable (cut ∙ v.coded) ∙ ap (λ (i : ℕ). sets out i text) is in
        let room : pair_offset pairs k + length text ≤ code_space = omega (arith, c.ends k l, c.low, size) in
        let fits : pair_offset pairs k + length text ≤ length out = omega (arith, room, b.long, c.room) in
        record {
          reached = omega arith;
          long = ap length stored-so ∙ length-sets out (pair_offset pairs k) text ∙ b.long;
          over = λ i h p g e. by_cases (dec_lt i k)
              (λ earlier.
              ap (λ (m : List ℕ). take (pair_length pairs i) (drop (pair_offset pairs i) m)) stored-so
              ∙ before out text (pair_offset pairs k) fits (pair_offset pairs i) (pair_length pairs i) (c.sorted i k earlier l)
              ∙ b.over i earlier p g e)
              (λ past.
              let last : i ≡ k = omega arith in
              let own : marked pairs code k ≡ encode p = rw (← last) e in
              let value : encode (rename_prop (mapped numbers) p) ≡ text = same_code p g own in
              rw last (ap (λ (m : List ℕ). take (pair_length pairs k) (drop (pair_offset pairs k) m)) stored-so
              ∙ ap (λ (n : ℕ). take n (drop (pair_offset pairs k) (sets out (pair_offset pairs k) text))) (sym size)
              ∙ there out text (pair_offset pairs k) fits ∙ sym value));
          beyond = ap (drop code_space) stored-so ∙ behind out text (pair_offset pairs k) fits code_space room ∙ b.beyond;
        }
      where
        same_code : (p : Prop ℕ) → Codable names p → marked pairs code k ≡ encode p → encode (rename_prop (mapped numbers) p) ≡ encode (rename_prop (mapped numbers) (c.whole k l).value)
        same_code p g e =
            let v = c.whole k l in
            let whole : encode p ++ [] ≡ encode v.value ++ [] = ap (λ (m : List ℕ). m ++ []) (sym e ∙ v.coded) in
            ap (λ (q : Prop ℕ). encode (rename_prop (mapped numbers) q)) (encode_injective names p v.value [] [] g v.codable whole).0

  -- once all do, ⊤ and ⊥ are stored behind them
  pub ends_stored : {k : ℕ} {out : List ℕ} → Below k out → count ≤ k
      → CodeStands names pairs code count numbers (set (set out code_space 0) (code_space + 1) 1)
  unfolding pair_end
  ends_stored {out = out} b h =
      let same = b.long in
      record {
        long = simp length-set (same ∙ c.room);
        over = λ k l p g e.
            let low : pair_offset pairs k + pair_length pairs k ≤ code_space = omega (arith, c.ends k l, c.low) in
            before (set out code_space 0) (1 ∷ []) (code_space + 1) (simp length-set (omega (arith, same, c.room))) (pair_offset pairs k) (pair_length pairs k) (omega arith)
            ∙ before out (0 ∷ []) code_space (omega (arith, same, c.room)) (pair_offset pairs k) (pair_length pairs k) low
            ∙ b.over k (omega arith) p g e;
        top = get_or-set_other (set out code_space 0) (code_space + 1) code_space 1 0 (λ e. omega arith) ∙ get_or-set_same out code_space 0 0 (omega (arith, same, c.room));
        bottom = get_or-set_same (set out code_space 0) (code_space + 1) 1 0 (simp length-set (omega (arith, same, c.room)));
      }
