-- An answer as it is handed back, its refusal located: what `map_err` makes of it by a closure that locates.
use Prim.Native.Nat.{ℕ}
use mathlib.Core.Path.{◌≡◌, refl, ap, ◌∙◌}
use mathlib.Core.List.{List}
use native.Mathlib.Omega.{arith}
use Rattle.std.specs.Prelude.{Result, Ok, Err, MatchResult, IsErrAnd}
use Rattle.std.proofs.lemmas.Result.{err_from_is_err_and}
use Rattle.definitions.specs.declared.Refusal.{Refusal}
use Rattle.definitions.specs.declared.Located.{Located}
use Rattle.definitions.specs.Answers.{located}

-- Of a sheet's bytes:
module _ (s : List ℕ) {A : Type 0} where
  unfoldable pub back : Result A Refusal → Result A Located
  back (Ok a) = Ok a
  back (Err r) = Err (located s r)

  pub mapped : (a : Result A Refusal) {r : Result A Located} {P : Refusal → Located → Type 0}
      → MatchResult a (λ x. r ≡ Ok x) (λ x. IsErrAnd r (P x)) → ((x : Refusal) (l : Located) → a ≡ Err x → P x l → l ≡ located s x)
      → r ≡ back a
  unfolding back
  mapped (Ok x) cases says = cases
  mapped (Err x) {r} cases says = let (l, is, p) = err_from_is_err_and r cases in is ∙ ap (λ y. Err y) (says x l refl p)

  -- what is accepted was answered, and so was what is refused
  pub accepted_back : (a : Result A Refusal) {r : Result A Located} {x : A} → r ≡ back a → r ≡ Ok x → a ≡ Ok x
  unfolding back
  accepted_back (Ok y) e is = cc
  accepted_back (Err y) e is = absurd (grind arith)

  pub refused_back : (a : Result A Refusal) {r : Result A Located} {l : Located} → r ≡ back a → r ≡ Err l
      → (x : Refusal) × (a ≡ Err x) × (l ≡ located s x)
  unfolding back
  refused_back (Ok y) e is = absurd (grind arith)
  refused_back (Err x) e is = (x, refl, cc)
