-- The place that a search from the last one down stops at is the highest; where it stops at none, there is none.
use Prim.Native.Nat.{ℕ, ◌+◌, ◌≤◌, ◌<◌}
use mathlib.Core.Path.{◌≡◌, refl, sym, ap, ◌∙◌}
use mathlib.Core.Bool.{Bool, true, false}
use mathlib.Core.List.{List, [], ◌∷◌}
use native.Mathlib.Omega.{arith}
use native.Mathlib.Numerals.{add-one}
use denote.Param.Members.{Mut}
use denote.Ref.{Bor}
use Rattle.std.proofs.iter.runs.Sources.{nat_range_steps_back}
use Rattle.std.specs.Fn.{CalledAt}
use Rattle.std.specs.Iterator.{YieldsThen}
use Rattle.std.specs.List.{FoldsTo}
use Rattle.std.specs.Option.{MatchOption}
use Rattle.std.specs.Prelude.{Option, None, Some}
use Rattle.std.specs.declared.ops.Range.{Range}
use Rattle.search.specs.Highest.{highest}

module _ {F : Type 0} (g : Mut F (Bor ℕ × Unit {0}) Bool) (f : F) (test : ℕ → Bool) (count : ℕ)
    (answers : (k : ℕ) (b : Bool) (q : F) → k < count → CalledAt g f k b q → (q ≡ f) × (b ≡ test k)) where
  passes : (k : ℕ) → test k ≡ false → highest test (k + 1) ≡ highest test k
  unfolding highest
  passes k fails = rw (add-one, highest, fails)

  ends : (k : ℕ) → test k ≡ true → highest test (k + 1) ≡ Some k
  unfolding highest
  ends k holds = rw (add-one, highest, holds)

  -- as the library's `rfind` over a range says it
  pub is_highest : (passed : List ℕ) (s u : Range ℕ) (p j : F) (r : Option ℕ) → p ≡ f → s.end ≤ count → s.start ≡ 0
      → YieldsThen nat_range_steps_back s passed r u → FoldsTo (λ p x q. CalledAt g p x false q) p passed j
      → MatchOption r (Unit {0}) (λ x. (h : F) × CalledAt g j x true h) → r ≡ highest test s.end
  unfolding highest
  is_highest [] s u p j None same within start (t, from, stop) folds end =
      let none : s.end ≡ 0 = omega (arith, stop.1.0, ap (λ (k : Range ℕ). k.end) from, ap (λ (k : Range ℕ). k.start) from) in
      rw none refl
  is_highest [] s u p j (Some x) same within start (t, from, stop) folds (h, called) =
      let here : s.end ≡ x + 1 = omega (arith, stop.1.1, stop.1.2, ap (λ (k : Range ℕ). k.end) from) in
      rw here (sym (ends x (sym (answers x true h (omega arith) (rw (sym folds, same) at called)).1)))
  is_highest (x ∷ passed) s u p j r same within start (t, (s', step, from), stop) (q, called, folds) end =
      let here : s.end ≡ x + 1 = omega (arith, step.1.1, step.1.2) in
      let answer = answers x false q (omega arith) (rw same at called) in
      let below : s'.end ≡ x = sym step.1.1 in
      let rest = is_highest passed s' u q j r answer.0 (omega arith) (step.0 ∙ start) (t, from, stop) folds end in
      rw (here, passes x (sym answer.1)) (rw below at rest)
