-- A term does not depend on the last numbers of its records.
use Prim.Native.Nat.{ℕ, zero, suc, ◌<◌}
use mathlib.Core.Path.{◌≡◌, refl, fun_ext}
use mathlib.Core.List.{List}
use native.Mathlib.Omega.{arith}
use Rattle.definitions.specs.Prop.{Prop}
use Rattle.definitions.specs.Term.{ProofTerm}
use Rattle.proof_term.specs.Records.{field_at, earlier, record_term_at, term_within, term_at}

-- all numbers but the last of each record are the same
abbrev pub SameNumbers : List ℕ → List ℕ → Type 0
SameNumbers r s = (k i : ℕ) → i < 6 → field_at r k i ≡ field_at s k i

module _ (props : ℕ → Prop ℕ) (r s : List ℕ) (same : SameNumbers r s) where
  record_same : (part : ℕ → ProofTerm ℕ) (n : ℕ) → record_term_at props part r n ≡ record_term_at props part s n
  unfolding record_term_at
  record_same part n =
      cc (same n 0 (omega arith), same n 1 (omega arith), same n 2 (omega arith), same n 3 (omega arith), same n 4 (omega arith), same n 5 (omega arith))

  within_same : (fuel : ℕ) → term_within props r fuel ≡ term_within props s fuel
  unfolding term_within
  within_same zero = refl
  within_same (suc fuel) = fun_ext λ n. rw (within_same fuel) (record_same (earlier n (λ part. term_within props s fuel part)) n)

  pub terms_same : (n : ℕ) → term_at props r n ≡ term_at props s n
  unfolding term_at
  terms_same n = rw (within_same (suc n))
