-- Document 02, ticket 5: at which nodes a judgement can stop, what an answer says, and of which number the root's own proposition is.
use Rattle.std.specs.Prelude.{ℕ, ◌-◌, ◌≤◌, ◌<◌, ◌≡◌, ◌↔◌, List}
use Rattle.definitions.specs.Name.{Name}
use Rattle.definitions.specs.Prop.{Prop}
use Rattle.definitions.specs.Sheet.{steps, step_records, step_number}
use Rattle.definitions.specs.Term.{ProofTerm}
use Rattle.definitions.specs.TermText.{nodes}
use Rattle.definitions.specs.CheckingRules.{Context, Checks}
use Rattle.definitions.specs.Checker.{Judged, derived, stopped}

-- what stops, stops at a node from `low` on and before `high`
pub data Within (low high : ℕ) {A : Type 0} : Judged A → Type 0 where
  goes : {a : A} → Within low high (derived a)
  stops : {n : ℕ} → low ≤ n → n < high → Within low high (stopped n)

-- the answer is yes precisely when the rules derive the judgement, and a no carries a node of the term
pub record Says (g : Context) (t : ProofTerm Name) (a : Prop Name) (j : Judged (Unit {0})) : Type 0 where
  pub yes_iff : (j ≡ derived tt) ↔ Checks g t a
  pub node : (n : ℕ) → j ≡ stopped n → n < nodes t

-- the number of the root's own proposition, where it concludes one
unfoldable pub root_number : List ℕ → ℕ
root_number s = step_number (step_records s) (steps s - 1) 12
