-- What it is to ascribe the newest term with a conclusion: 13 at the step where that is a type judgement.
use Rattle.std.specs.Prelude.{ℕ, ◌-◌, ◌≡◌, List, Result, Ok, Err}
use Rattle.definitions.specs.declared.Refusal.{Refusal}
use Rattle.definitions.specs.Sheet.{pair_offset}
use Rattle.definitions.specs.Term.{proposition, TypeAscription}
use Rattle.proof_term.specs.Making.{Made}
use Rattle.steps.specs.declared.Judgement.{Judgement}
use Rattle.steps.specs.declared.Conclusion.{Conclusion}
use Rattle.steps.specs.declared.Conclusion.TheVariants.{PropIsTrue, TypeJudgement}

pub data Wrapped (pairs : List ℕ) (k : ℕ) (before : List ℕ) (used : ℕ) (after : List ℕ) : Conclusion → Result ℕ Refusal → Type 0 where
  ascribes : {p next : ℕ}
      → Made (λ props part. TypeAscription (part (used - 1)) (proposition (props (pair_offset pairs p)))) before used after next
      → Wrapped pairs k before used after (PropIsTrue p) (Ok next)
  refuses : {x : Judgement} {r : Refusal} → r ≡ record { number = 13; place = k } → Wrapped pairs k before used after (TypeJudgement x) (Err r)

-- an answer that gives a number of records where there is no refusal
abbrev pub counted : {A : Type 0} → ℕ → Result A Refusal → Result ℕ Refusal
counted next (Ok a) = Ok next
counted next (Err r) = Err r

-- the same of the memory and the count of its records, before and after
abbrev pub WrappedIn : {A : Type 0} → List ℕ → ℕ → Conclusion → Result A Refusal → List ℕ → ℕ → List ℕ → ℕ → Type 0
WrappedIn pairs k c r before used after next = Wrapped pairs k before used after c (counted next r)
