-- What each turn of the machine keeps: a property of states, proved reading by reading.
use Prim.Native.Nat.{ℕ}
use mathlib.Core.Path.{◌≡◌, refl}
use mathlib.Core.Bool.{Bool, true, false, cond}
use Rattle.std.specs.Prelude.{Option, None, Some}
use mathlib.Core.List.{List, ◌++◌}
use native.Mathlib.Omega.{arith}
use Rattle.definitions.specs.Code.{Read}
use Rattle.definitions.specs.TermReader.{same, expect, if_read}
use Rattle.reading_laws.specs.TermMachine.{State, and_then, if_due, onward}
use Rattle.reading_laws.proofs.TermConventions.{Gives, expected}

module _ (P : State → Type 0) where
  -- of the next state, if there is one
  unfoldable pub Next : Option State → Type 0
  Next None = Prim.Unit {0}
  Next (Some σ) = P σ

  pub next_then : {A : Type 0} (Q : A → List ℕ → Type 0) (x : Option (Read A)) (go : A → List ℕ → Option State) → Gives x Q
      → ((a : A) (t : List ℕ) → Q a t → Next (go a t)) → Next (and_then x go)
  unfolding Next Gives and_then
  next_then Q None go h k = tt
  next_then Q (Some r) go h k = k r.value r.rest h

  pub next_if : {A : Type 0} (Q : A → List ℕ → Type 0) (x : Option (Read A)) (then : A → List ℕ → Option State) (else : Option State) → Gives x Q
      → ((a : A) (t : List ℕ) → Q a t → Next (then a t)) → Next else → Next (if_read x then else)
  unfolding Next Gives if_read
  next_if Q None then else h k e = e
  next_if Q (Some r) then else h k e = k r.value r.rest h

  pub next_after : (bs s : List ℕ) (go : Prim.Unit {0} → List ℕ → Option State) → ((t : List ℕ) → s ≡ bs ++ t → Next (go tt t))
      → Next (and_then (expect bs s) go)
  next_after bs s go k = next_then (λ u t. s ≡ bs ++ t) (expect bs s) go (expected bs s) (λ a t h. k t h)

  pub next_or : (bs s : List ℕ) (then : Prim.Unit {0} → List ℕ → Option State) (else : Option State) → ((t : List ℕ) → s ≡ bs ++ t → Next (then tt t))
      → Next else → Next (if_read (expect bs s) then else)
  next_or bs s then else k e = next_if (λ u t. s ≡ bs ++ t) (expect bs s) then else (expected bs s) (λ a t h. k t h) e

  pub next_due : (own asked : Bool) (go : Option State) → (own ≡ asked → Next go) → Next (if_due own asked go)
  unfolding Next if_due same
  next_due true true go h = h refl
  next_due true false go h = tt
  next_due false true go h = tt
  next_due false false go h = h refl

  pub next_cond : (b : Bool) (x y : Option State) → (b ≡ true → Next x) → (b ≡ false → Next y) → Next (cond b x y)
  next_cond true x y h k = h refl
  next_cond false x y h k = k refl

  pub next_some : (x : Option State) (τ : State) → onward x ≡ onward (Some τ) → Next x → P τ
  unfolding Next
  next_some None τ e h = absurd (grind arith)
  next_some (Some σ) τ e h = let same : σ ≡ τ = cc in rw (← same) h
