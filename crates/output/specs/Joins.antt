-- What is written in turn is written together, within the memory and past its end.
use Rattle.std.specs.Prelude.{ℕ, ◌+◌, ◌≤◌, ◌<◌, ◌≡◌, List, [], ◌∷◌, ◌++◌, length, refl}
use Prim.Native.Nat.{suc}
use mathlib.Core.Path.{ap, ◌∙◌}
use mathlib.Core.Logic.{by_cases}
use native.Mathlib.Omega.{arith}
use native.Mathlib.Decide.{dec_le}
use lib.ListN.{set, length-append}
use lib.Seq.{set_out, length-sets}
use Rattle.std.proofs.lemmas.List.Edits.{sets}
use Rattle.output.specs.Wrote.{Wrote}

-- what is stored past the end is dropped
pub sets_past : {A : Type 0} (l : List A) (i : ℕ) (s : List A) → length l ≤ i → sets l i s ≡ l
sets_past l i [] h = refl
sets_past l i (a ∷ s) h = rw (set_out l i a) (sets_past l (suc i) s (omega arith))

-- a text is stored and then another after it
pub sets_append : {A : Type 0} (l : List A) (i : ℕ) (s t : List A) → sets (sets l i s) (i + length s) t ≡ sets l i (s ++ t)
sets_append l i [] t = ap (λ k. sets l k t) (omega arith)
sets_append l i (a ∷ s) t = ap (λ k. sets (sets (set l i a) (suc i) s) k t) (omega arith) ∙ sets_append (set l i a) (suc i) s t

-- a write keeps the length of the memory
pub same_length : {A : Type 0} {text before after : List A} {to next : ℕ} → Wrote text before to after next → length after ≡ length before
same_length {text = text} {before = before} {to = to} w = ap length w.stored ∙ length-sets before to text

-- nothing is written
pub none : {A : Type 0} (before : List A) (to : ℕ) → Wrote [] before to before to
none before to = record { stored = refl; within = omega arith; beyond = omega arith }

-- A text is written and then another where the first one ended: that is to write both at once.
module _
    {A : Type 0}
    {s t before mid after : List A}
    {to at next : ℕ}
    (a : Wrote s before to mid at)
    (b : Wrote t mid at after next)
  where
    -- the first one fits
    then_within : to + length s ≤ length before → Wrote (s ++ t) before to after next
    then_within h =
        let sum = length-append s t in
        let same = same_length a in
        let here = a.within h in
        record {
          stored = b.stored ∙ rw (here, a.stored) (sets_append before to s t);
          within = λ k. let e = b.within (omega arith) in omega arith;
          beyond = λ k. let e = b.beyond (omega arith) in omega arith;
        }

    -- the first one does not fit, and all of the other is dropped
    then_past : length before < to + length s → Wrote (s ++ t) before to after next
    then_past h =
        let sum = length-append s t in
        let same = same_length a in
        let past = a.beyond h in
        record {
          stored = cc (
            sets_append before to s t,
            sets_past mid at t (omega arith),
            sets_past mid (to + length s) t (omega arith),
          );
          within = omega arith;
          beyond = λ k. let e = b.beyond (omega arith) in omega arith;
        }

    pub then : Wrote (s ++ t) before to after next
    then = by_cases (dec_le (to + length s) (length before)) then_within (λ h. then_past (omega arith))
