-- What is handed over for each answer that the operations give.
use Prim.Native.Nat.{ℕ}
use mathlib.Core.Path.{◌≡◌, refl, ap, ◌∙◌}
use mathlib.Core.Bool.{Bool}
use Rattle.std.specs.Prelude.{Option, Result, Err, Ok, MatchResult, IsOkAnd}
use mathlib.Core.List.{List}
use lib.ListN.{length}
use Rattle.definitions.specs.declared.Located.{Located}
use Rattle.definitions.specs.Outcome.{Outcome, accepted, refused}
use Rattle.definitions.specs.Answers.{located}
use Rattle.skriduhol.specs.Searched.{searched_of}
use Rattle.skriduhol.specs.Located.{filled_of, FillsOf, count_of, verdict_of}
use Rattle.skriduhol.specs.Lengths.{Measures}
use Rattle.skriduhol_c.specs.Handed.{number_of, value_of, column_for, Hands, HandsAnswer, HandsFilled, HandsLength}

ok_said : {P : ℕ → Type 0} (r : Result ℕ Located) → IsOkAnd r P → (n : ℕ) × (r ≡ Ok n) × P n
ok_said (Ok n) p = (n, refl, p)
ok_said (Err l) p = absurd p

-- Of what an accepted answer says as one number:
module _ {A : Type 0} (says : A → ℕ) where
  -- an answer of the operations, by that number
  unfoldable pub numbered : Result A Located → Result ℕ Located
  numbered (Ok a) = Ok (says a)
  numbered (Err l) = Err l

  -- it is what `map` makes of the answer by a function that says it
  pub mapped : (a : Result A Located) {r : Result ℕ Located} {P : A → ℕ → Type 0} → MatchResult a (λ x. IsOkAnd r (P x)) (λ l. r ≡ Err l)
      → ((x : A) (n : ℕ) → P x n → n ≡ says x) → r ≡ numbered a
  unfolding numbered
  mapped (Ok x) {r} cases said = let (n, is, p) = ok_said r cases in is ∙ ap (λ y. Ok y) (said x n p)
  mapped (Err l) cases said = cases

  -- an outcome of a sheet, by that number and with its refusal located
  unfoldable pub told : List ℕ → Outcome A → Result ℕ Located
  told s (accepted a) = Ok (says a)
  told s (refused r) = Err (located s r)

  -- handed over, it is the outcome's
  pub hands : (s : List ℕ) (o : Outcome A) {r : Result ℕ Located} {value column result : ℕ} → r ≡ told s o → HandsAnswer r value column result
      → Hands says s o value column result
  unfolding told number_of value_of column_for located
  hands s (accepted a) e h = let h = rw e at h in record { number = h.number; said = h.said; drawn = h.drawn }
  hands s (refused x) e h = let h = rw e at h in record { number = h.number; said = h.place; drawn = h.drawn }

-- each kind of answer is the outcome by its number
module _ (s : List ℕ) where
  filled_told : (o : Outcome (List ℕ)) → filled_of s o ≡ told length s o
  unfolding filled_of told
  filled_told (accepted a) = refl
  filled_told (refused x) = refl

  count_told : (o : Outcome ℕ) → count_of s o ≡ told (λ n. n) s o
  unfolding count_of told
  count_told (accepted n) = refl
  count_told (refused x) = refl

  verdict_told : (says : Bool → ℕ) (o : Outcome Bool) → numbered says (verdict_of s o) ≡ told says s o
  unfolding verdict_of numbered told
  verdict_told says (accepted b) = refl
  verdict_told says (refused x) = refl

  search_told : (says : Option ℕ → ℕ) (o : Outcome (Option ℕ)) → numbered says (searched_of s o) ≡ told says s o
  unfolding searched_of numbered told
  search_told says (accepted x) = refl
  search_told says (refused x) = refl

-- So, of a sheet's bytes, it is handed over. Each export cites one of these in an answer of its own: by `using` the search gives up at its
-- limits on an answer that is a function of the sheet.
module _ (s : List ℕ) {r : Result ℕ Located} {value column result : ℕ} (h : HandsAnswer r value column result) where
  pub filled_handed : (o : Outcome (List ℕ)) → r ≡ filled_of s o → Hands length s o value column result
  filled_handed o e = hands length s o (e ∙ filled_told s o) h

  pub count_handed : (o : Outcome ℕ) → r ≡ count_of s o → Hands (λ (n : ℕ). n) s o value column result
  count_handed o e = hands (λ (n : ℕ). n) s o (e ∙ count_told s o) h

  pub verdict_handed : (says : Bool → ℕ) (o : Outcome Bool) → r ≡ numbered says (verdict_of s o) → Hands says s o value column result
  verdict_handed says o e = hands says s o (e ∙ verdict_told s says o) h

  pub search_handed : (says : Option ℕ → ℕ) (o : Outcome (Option ℕ)) → r ≡ numbered says (searched_of s o) → Hands says s o value column result
  search_handed says o e = hands says s o (e ∙ search_told s says o) h

  -- an answer that fills lent memory, handed over
  pub fills : {answer : List ℕ → ℕ → Outcome (List ℕ)} {before after : List ℕ} → FillsOf s (answer s (length before)) before after r
      → HandsFilled answer s before after value column result
  fills f = record { handed = filled_handed _ f.answer; memory = f.memory }

  -- the length of an answer, handed over
  pub lengths : {answer : List ℕ → ℕ → Outcome (List ℕ)} {whole : List ℕ → Outcome (List ℕ)} → Measures s (answer s) (whole s) r
      → HandsLength answer whole s value column result
  lengths m = record { handed = filled_handed _ m.told; in_room = m.in_room }
