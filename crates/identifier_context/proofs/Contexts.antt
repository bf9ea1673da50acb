-- The context that lent memory holds is decided by its entries.
use Prim.Native.Nat.{ℕ, zero, suc, ◌<◌}
use mathlib.Core.Path.{◌≡◌, refl, ap}
use mathlib.Core.List.{List}
use native.Mathlib.Omega.{arith}
use lib.ListN.{length}
use Rattle.identifier_context.specs.declared.Entry.{Entry}
use Rattle.identifier_context.specs.Memory.{entry_at, context_of, Holds}

pub context_length : (entries : List Entry) (n : ℕ) → length (context_of entries n) ≡ n
unfolding context_of
context_length entries zero = refl
context_length entries (suc n) = ap suc (context_length entries n)

-- lent memory holds the empty context, whatever its entries are
pub empty_holds : {pairs text : List ℕ} {entries : List Entry} → Holds pairs text entries 0
empty_holds = record { present = omega arith; named = λ i h. absurd (omega arith) }

-- two contexts are the same where their entries are
pub context_same : (a b : List Entry) (n : ℕ) → ((i : ℕ) → i < n → entry_at a i ≡ entry_at b i) → context_of a n ≡ context_of b n
unfolding context_of
context_same a b zero same = refl
context_same a b (suc n) same =
    let last = same n (omega arith) in
    let others = context_same a b n (λ i h. same i (omega arith)) in
    cc
