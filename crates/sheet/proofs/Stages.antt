-- How the checks of a stage, in their order, come to its answer.
use Prim.Native.Nat.{ℕ}
use mathlib.Core.Path.{◌≡◌, refl, sym, ◌∙◌}
use mathlib.Core.Bool.{Bool, true, false}
use native.Mathlib.Omega.{arith}
use Rattle.definitions.specs.declared.Refusal.{Refusal}
use Rattle.definitions.specs.Outcome.{Outcome, refused, accepted, refuse, ◌>>=◌, refuse_if}
use Rattle.sheet.specs.declared.header.Sheet.{Sheet}
use Rattle.std.specs.Prelude.{Result, Ok, Err, ℕ}
use Rattle.sheet.specs.Checks.{answered}

module _ {b : Bool} (number place : ℕ) where
  pub refused_if : {x : Refusal} → b ≡ true → x ≡ record { number = number; place = place } → refused x ≡ refuse_if b number place
  unfolding refuse_if refuse
  refused_if e is = rw (e, is)

  pub not_refused_if : b ≡ false → accepted tt ≡ refuse_if b number place
  unfolding refuse_if
  not_refused_if e = rw e

-- Of checks one after the other, the first that refuses answers, and one that accepts leaves it to the rest.
module _ {A B : Type 0} {m : Outcome A} (rest : A → Outcome B) where
  pub stops : {x : Refusal} → refused x ≡ m → refused x ≡ ◌>>=◌ m rest
  unfolding ◌>>=◌
  stops e = rw (← e)

  pub passes : {a : A} {o : Outcome B} → accepted a ≡ m → o ≡ rest a → o ≡ ◌>>=◌ m rest
  unfolding ◌>>=◌
  passes e q = rw (← e) q

pub stopped : {A : Type 0} {m : Outcome A} (rest : A → Outcome A) {x : Refusal} → refused x ≡ m → m ≡ ◌>>=◌ m rest
stopped rest e = sym e ∙ stops rest e

-- The answer that an outcome is:
module _ {A : Type 0} (h : Sheet) {m : Outcome A} where
  pub answer_refused : {x : Refusal} → refused x ≡ m → Err x ≡ answered h m
  unfolding answered
  answer_refused e = rw (← e)

  pub answer_accepted : {a : A} {k : Sheet} → k ≡ h → accepted a ≡ m → Ok k ≡ answered h m
  unfolding answered
  answer_accepted same e = rw (same, ← e)

pub refused_not_accepted : {r : Result Sheet Refusal} {x : Refusal} {h : Sheet} → r ≡ Err x → r ≡ Ok h → ⊥
refused_not_accepted e q = grind arith

-- What the answer of a whole stage says.
module _ {A : Type 0} (h : Sheet) {r : Result Sheet Refusal} where
  pub stage_refuses : (m : Outcome A) {x : Refusal} → r ≡ answered h m → r ≡ Err x → m ≡ refused x
  unfolding answered
  stage_refuses (refused y) e q = cc
  stage_refuses (accepted a) e q = absurd (refused_not_accepted q e)

  -- an accepted stage has the header that it was given
  pub stage_accepted : (m : Outcome A) {k : Sheet} → r ≡ answered h m → r ≡ Ok k → (k ≡ h) × (a : A) × (m ≡ accepted a)
  unfolding answered
  stage_accepted (refused y) e q = absurd (refused_not_accepted e q)
  stage_accepted (accepted a) e q = (cc, a, refl)

  -- the refusal of a stage is that of the stages from it on
  pub stage_refused : {B : Type 0} (m : Outcome A) (rest : A → Outcome B) {x : Refusal} → r ≡ answered h m → r ≡ Err x
      → r ≡ answered h (◌>>=◌ m rest)
  unfolding answered ◌>>=◌
  stage_refused m rest e q = rw (stage_refuses m e q) q
