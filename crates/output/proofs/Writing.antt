-- How what fits of a text is written.
use Prim.Native.Nat.{ℕ, suc, ◌+◌, ◌-◌, ◌≤◌, ◌<◌, min}
use mathlib.Core.Path.{◌≡◌, sym, ap, ◌∙◌}
use mathlib.Core.Logic.{by_cases}
use mathlib.Core.List.{List, [], ◌∷◌, ◌++◌}
use native.Mathlib.Omega.{arith}
use native.Mathlib.Decide.{dec_le}
use native.Mathlib.Numerals.{add-one}
use lib.ListN.{length, set, take, drop, get_or, length-take, take-append-drop}
use lib.Seq.{sets, sets-eq, take-suc, take-length, length-sets}
use borrow.Rule.Slice.PartMut.{put_mid}
use Rattle.std.proofs.lemmas.Grind.{common_steps}
use Rattle.output.specs.Wrote.{Wrote}
pub use Rattle.output.specs.Joins.{sets_past, sets_append, same_length, none, then}

-- what `copy_from_slice` leaves where the elements lie within the memory
pub stored_part : {A : Type 0} (to count : ℕ) (out s : List A) → count ≡ length s → to + length s ≤ length out → put_mid to count out s ≡ sets out to s
stored_part to count out s e h = rw sets-eq (grind (arith, common_steps))

-- one more element of a text is stored
pub one_more_stored : {A : Type 0} (before : List A) (to i : ℕ) (text : List A) {a : A} {after : List A} → i < length text → a ≡ get_or text i a
    → after ≡ sets before to (take i text) → set after (to + i) a ≡ sets before to (take (i + 1) text)
one_more_stored before to i text {a} h is e =
    let here : length (take i text) ≡ i = omega (arith, length-take i text) in
    let more : take (suc i) text ≡ take i text ++ (a ∷ []) = take-suc text i a h ∙ ap (λ x. take i text ++ (x ∷ [])) (sym is) in
    rw (add-one, more, e) (rw here at (sets_append before to (take i text) (a ∷ [])))

-- to store what fits of a text is to store the text
pub fitting_part : {A : Type 0} (before : List A) (to : ℕ) (text : List A) {after : List A} {fit : ℕ} → fit ≡ min (length before - to) (length text)
    → after ≡ sets before to (take fit text) → after ≡ sets before to text
fitting_part before to text {after} {fit} fits e = e ∙ by_cases (dec_le (length text) fit)
    (λ h. let all : fit ≡ length text = omega arith in rw (all, take-length))
    (λ h.
    let here : length (take fit text) ≡ fit = omega (arith, length-take fit text) in
    let past = sets_past (sets before to (take fit text)) (to + fit) (drop fit text) (omega (arith, length-sets before to (take fit text))) in
    sym past ∙ rw here at (sets_append before to (take fit text) (drop fit text)) ∙ ap (sets before to) (take-append-drop fit text))

-- A text of known size is stored, of which so much fits:
module _
    {A : Type 0}
    {before text after : List A}
    {to size fit : ℕ}
    (sized : size ≡ length text)
    (fits : fit ≡ min (length before - to) size)
    (stored : after ≡ sets before to text)
  where
    -- all of it
    pub fits_whole : size ≤ fit → Wrote text before to after (to + fit)
    fits_whole h = record { stored = stored; within = λ k. omega arith; beyond = λ k. omega arith }

    -- not all of it
    pub fits_partly : fit < size → Wrote text before to after (length after + 1)
    fits_partly h =
        let same : length after ≡ length before = rw stored (length-sets before to text) in
        record { stored = stored; within = λ k. omega arith; beyond = λ k. omega arith }
