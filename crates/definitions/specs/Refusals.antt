-- Which refusals a question can meet. Document 01, "Refusals in checking order"; document 02, ticket 7, for 18, ticket 3, for
-- 21, ticket 9, for 23 to 25, ticket 13, for 29 and 30, and ticket 5, for 22 and 31.
use Rattle.std.specs.Prelude.{ℕ, ◌≤◌, ◌≡◌, ◌⊎◌}
use Rattle.definitions.specs.declared.Refusal.{Refusal}
use Rattle.definitions.specs.Outcome.{Outcome, accepted, refused}

-- an outcome that is accepted, or refused with a refusal of that kind
pub data Meets (Kind : Refusal → Type 0) {A : Type 0} : Outcome A → Type 0 where
  is_accepted : {a : A} → Meets Kind (accepted a)
  is_refused : {r : Refusal} → Kind r → Meets Kind (refused r)

-- the same by the number alone
abbrev pub Uses : (ℕ → Type 0) → {A : Type 0} → Outcome A → Type 0
Uses Kind o = Meets (λ r. Kind r.number) o

pub record Between (least most number : ℕ) : Type 0 where
  pub low : least ≤ number
  pub high : number ≤ most

-- the texts and datatype lists of a version use 1 to 16 and 21 only
abbrev pub OfHandout : ℕ → Type 0
OfHandout number = Between 1 16 number ⊎ number ≡ 21

-- comparison uses 1 to 11, 17 and 19 only
abbrev pub OfComparison : ℕ → Type 0
OfComparison number = Between 1 11 number ⊎ (number ≡ 17 ⊎ number ≡ 19)

-- a restatement uses 1 to 11, 16, 19 and 23 to 25 only
abbrev pub OfRestatement : ℕ → Type 0
OfRestatement number = Between 1 11 number ⊎ (number ≡ 16 ⊎ (number ≡ 19 ⊎ Between 23 25 number))

-- an exercise uses 16, 29 and 30 only
abbrev pub OfExercise : ℕ → Type 0
OfExercise number = number ≡ 16 ⊎ (number ≡ 29 ⊎ number ≡ 30)

-- the judgement of a sheet's own term uses 1 to 15, 22 and 31 only
abbrev pub OfSheetJudgement : ℕ → Type 0
OfSheetJudgement number = Between 1 15 number ⊎ (number ≡ 22 ⊎ number ≡ 31)

-- that of a term read beside a sheet uses 1 to 11, 16, 20, 22 and 31 only
abbrev pub OfBesideJudgement : ℕ → Type 0
OfBesideJudgement number = Between 1 11 number ⊎ (number ≡ 16 ⊎ (number ≡ 20 ⊎ (number ≡ 22 ⊎ number ≡ 31)))
