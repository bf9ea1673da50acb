-- A form of two parts: what the calls for its parts may ask, and what stays.
use Prim.Native.Nat.{ℕ, ◌+◌, ◌≤◌}
use mathlib.Core.Path.{◌≡◌, ◌∙◌}
use mathlib.Core.List.{List}
use native.Mathlib.Omega.{arith}
use Rattle.std.specs.Prelude.{Option}
use Rattle.definitions.specs.Prop.{Prop}
use Rattle.definitions.specs.Term.{ProofTerm}
use Rattle.definitions.specs.TermText.{nodes}
use Rattle.proof_term.specs.Records.{field_at}
use Rattle.prop_numbers.specs.declared.Made.{Made}
use Rattle.prop_numbers.specs.Standing.{Kept}
use Rattle.prop_numbers.proofs.Reps.{kept_wider, kept_then}
use Rattle.checker.specs.Asking.{label_prop, term_of, Few, Judgeable}
use Rattle.checker.specs.Helping.{After}
use Rattle.checker.proofs.Forms.{Two}
use Rattle.checker.proofs.Steps.{Call, call, few}

module _ {records code : List ℕ} {stride : ℕ} {scope : List (Option ℕ)} {mades : List Made} {m n : ℕ} (j : Judgeable records code stride scope mades m n)
    {a : ℕ} {F : ProofTerm ℕ → ProofTerm ℕ → ProofTerm ℕ} (v : Two records code stride m a (field_at records m 2) F) where
  abbrev labels : ℕ → Prop ℕ
  labels = label_prop code stride

  abbrev term : ℕ → ProofTerm ℕ
  term i = term_of code stride records i

  pub first_call : Call records code stride scope mades m a (n + 1)
  first_call = call j v.first j.entries j.slots (omega (arith, j.room, v.size))

  pub first_few : Few records a (n + 1)
  first_few = few j (n + 1) v.first (omega (arith, j.room, v.size))

  -- Once the first part is done:
  module _ {mades' : List Made} (k : Kept (n + 1) (n + 1 + nodes (term a)) mades mades') where
    pub first_kept : Kept n (n + nodes (term m)) mades mades'
    first_kept = kept_wider n (n + nodes (term m)) (omega arith) (omega (arith, v.size)) k

    module _ {b next : ℕ} (eb : b ≡ field_at records m 2) (en : After records a (n + 1) next) where
      pub second_is : term m ≡ F (term a) (term b)
      second_is = rw eb v.is

      pub second_room : next + nodes (term b) ≤ n + nodes (term m)
      second_room = rw (eb, en labels) (omega (arith, v.size))

      pub second_call : {scope' : List (Option ℕ)} → scope' ≡ scope → Call records code stride scope' mades' m b next
      second_call same = call j (rw eb v.second) (rw same j.entries) (k.long ∙ j.slots) (omega (arith, second_room, j.room))

      pub both_kept : {mades'' : List Made} → Kept next (next + nodes (term b)) mades' mades'' → Kept n (n + nodes (term m)) mades mades''
      both_kept l = kept_then first_kept (kept_wider n (n + nodes (term m)) (rw (en labels) (omega arith)) second_room l)
