-- What the two functions answer: nothing or a proposition's number, or else the node at which the rules stop.
use Rattle.std.specs.Prelude.{ℕ, ◌+◌, ◌<◌, ◌≡◌, List, Option, Result, Ok, Err}
use Rattle.definitions.specs.Name.{Name}
use Rattle.definitions.specs.Prop.{Prop, rename_prop}
use Rattle.definitions.specs.Term.{ProofTerm, rename_term}
use Rattle.definitions.specs.TermText.{nodes}
use Rattle.definitions.specs.CheckingRules.{Context}
use Rattle.definitions.specs.Checker.{Judged, derived, stopped, infer, check}
use Rattle.prefix_code.specs.PropAt.{prop_at}
use Rattle.prop_numbers.specs.declared.Made.{Made}
use Rattle.prop_numbers.specs.Standing.{number_limit, name_space, Rep, Kept, Distinct}
use Rattle.checker.specs.declared.Terms.{Terms}
use Rattle.checker.specs.declared.State.{State}
use Rattle.checker.specs.Scope.{Scoped}
use Rattle.checker.specs.Asking.{term_of}

-- what is inferred, under names
unfoldable pub named : (ℕ → Name) → Judged (Prop ℕ) → Judged (Prop Name)
named f (derived a) = derived (rename_prop f a)
named f (stopped n) = stopped n

-- an answer of `infer`
pub data Shows (code : List ℕ) (made : List Made) (lo hi : ℕ) : Judged (Prop ℕ) → Result ℕ ℕ → Type 0 where
  proposition : {r : Result ℕ ℕ} {a : Prop ℕ} (p : ℕ) → r ≡ Ok p → p < number_limit → Rep code made lo hi p a → Shows code made lo hi (derived a) r
  node : {r : Result ℕ ℕ} (n : ℕ) → r ≡ Err n → Shows code made lo hi (stopped n) r

-- an answer of `check`
pub data Checks : Judged (Unit {0}) → Result (Unit {0}) ℕ → Type 0 where
  yes : {r : Result (Unit {0}) ℕ} → r ≡ Ok tt → Checks (derived tt) r
  node : {r : Result (Unit {0}) ℕ} (n : ℕ) → r ≡ Err n → Checks (stopped n) r

-- for every naming by different names and every context that the scope holds, a term infers that
unfoldable pub Means : List ℕ → List (Option ℕ) → ProofTerm ℕ → ℕ → Judged (Prop ℕ) → Type 0
Means code scope t n o = (f : ℕ → Name) (g : Context) → Distinct f → Scoped f code scope g → infer (rename_term f t) g n ≡ named f o

-- and checks so against the proposition at p
unfoldable pub Decides : List ℕ → List (Option ℕ) → ProofTerm ℕ → ℕ → ℕ → Judged (Unit {0}) → Type 0
Decides code scope t n p o =
    (f : ℕ → Name) (g : Context) → Distinct f → Scoped f code scope g
    → check (rename_term f t) g n (rename_prop f (prop_at name_space code p)) ≡ o

pub record InfersAs (code : List ℕ) (scope : List (Option ℕ)) (made : List Made) (t : ProofTerm ℕ) (n : ℕ) (r : Result ℕ ℕ) : Type 0 where
  pub outcome : Judged (Prop ℕ)
  pub shown : Shows code made n (n + nodes t) outcome r
  pub means : Means code scope t n outcome

pub record ChecksAs (code : List ℕ) (scope : List (Option ℕ)) (t : ProofTerm ℕ) (n p : ℕ) (r : Result (Unit {0}) ℕ) : Type 0 where
  pub outcome : Judged (Unit {0})
  pub shown : Checks outcome r
  pub means : Decides code scope t n p outcome

-- The contracts of the two functions. The scope is put back, and only the term's own slots change.
pub record Inferred (records code : List ℕ) (stride : ℕ) (scope : List (Option ℕ)) (made : List Made) (m n : ℕ) (scope' : List (Option ℕ)) (made' : List Made) (r : Result ℕ ℕ) : Type 0 where
  pub answer : InfersAs code scope made' (term_of code stride records m) n r
  pub same : scope' ≡ scope
  pub kept : Kept n (n + nodes (term_of code stride records m)) made made'

pub record Checked (records code : List ℕ) (stride : ℕ) (scope : List (Option ℕ)) (made : List Made) (m n p : ℕ) (scope' : List (Option ℕ)) (made' : List Made) (r : Result (Unit {0}) ℕ) : Type 0 where
  pub answer : ChecksAs code scope (term_of code stride records m) n p r
  pub same : scope' ≡ scope
  pub kept : Kept n (n + nodes (term_of code stride records m)) made made'

-- the same of the memory that is lent
abbrev pub InferredTerm : Terms → ℕ → ℕ → State → State → Result ℕ ℕ → Type 0
InferredTerm terms m n state state' r = Inferred terms.records.now terms.code.now terms.stride state.scope state.made m n state'.scope state'.made r

abbrev pub CheckedTerm : Terms → ℕ → ℕ → ℕ → State → State → Result (Unit {0}) ℕ → Type 0
CheckedTerm terms m n p state state' r = Checked terms.records.now terms.code.now terms.stride state.scope state.made m n p state'.scope state'.made r
