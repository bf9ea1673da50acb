-- What the tables hold while the records are measured.
use Prim.Native.Nat.{ℕ, ◌+◌, ◌<◌, min}
use mathlib.Core.Path.{◌≡◌, sym, ◌∙◌}
use Rattle.std.specs.Prelude.{Option, None}
use Rattle.std.proofs.lemmas.Option.{none-some}
use mathlib.Core.Logic.{by_cases}
use mathlib.Core.List.{List}
use native.Mathlib.Omega.{arith}
use native.Mathlib.Decide.{dec_lt, ℕ_discrete}
use lib.ListN.{length, get_or, set, replicate, length-replicate, get_or-replicate, get_or-eq_default}
use lib.Seq.{get_or-set_same, get_or-set_other}
use Rattle.definitions.specs.declared.Style.{Style}
use Rattle.vocabulary.specs.declared.Vocabulary.{Vocabulary}
use Rattle.proof_term_length.specs.Measure.{term_length, MeasuredBelow, Known}

-- an entry of a table that is empty
none_at : (n i : ℕ) → ◌≡◌ {A = Option ℕ} (get_or (replicate n None) i None) None
none_at n i = by_cases (dec_lt i n)
    (λ h. get_or-replicate n i None None h)
    (λ h. get_or-eq_default (replicate n None) None {n = i} (omega (arith, length-replicate {A = Option ℕ} n None)))

module _ (bytes : List ℕ) (v : Vocabulary) where
  pub none_known : (n : ℕ) → Known bytes v (replicate n None)
  none_known n i k is = absurd (none-some k (sym (none_at n i) ∙ is))

  module _ (records : List ℕ) (s : Style) (cap : ℕ) where
    -- one more record is measured
    pub one_measured : (lengths : List ℕ) {m r : ℕ} → MeasuredBelow bytes v records s cap lengths m → m < length lengths
        → r ≡ min (term_length bytes v records s m) cap → MeasuredBelow bytes v records s cap (set lengths m r) (m + 1)
    one_measured lengths {m} below inside is k h = by_cases (ℕ_discrete k m)
        (λ e. rw e (get_or-set_same lengths m _ 0 inside ∙ is))
        (λ other. get_or-set_other lengths m k _ 0 other ∙ below k (omega arith))
