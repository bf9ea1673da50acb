-- Each pair of a sheet's propositions marks the code of one, and since no two overlap, their ends can be filled in one after the other.
use Prim.Native.Nat.{ℕ, zero, suc, ◌+◌, ◌≤◌, ◌<◌}
use mathlib.Core.Path.{◌≡◌}
use mathlib.Core.Logic.{by_cases}
use mathlib.Core.List.{List}
use native.Mathlib.Omega.{arith}
use native.Mathlib.Decide.{dec_lt}
use lib.ListN.{length}
use Rattle.definitions.specs.Code.{encode}
use Rattle.definitions.specs.Sheet.{pair_offset, pair_end, last_end}
use Rattle.definitions.proofs.PrefixCode.{Bytes}
use Rattle.prefix_code.specs.PropAt.{prop_at, Present}
use Rattle.prefix_code.proofs.Reading as reading
use Rattle.prop.specs.Ends.{Known, Filled, CodePairs}
use Rattle.prop.proofs.Filling.{ends_kept}

module _ (names : ℕ) (pairs code : List ℕ) (count : ℕ) (bytes : Bytes code) (m : CodePairs names pairs code count) where
  pub present_in : (i : ℕ) → i < count → Present names code (pair_offset pairs i)
  present_in i h = reading.present_in names pairs code i bytes (m.coded i h)

  size_in : (i : ℕ) → i < count → pair_offset pairs i + length (encode (prop_at names code (pair_offset pairs i))) ≡ pair_end pairs i
  size_in i h = reading.size_in names pairs code i bytes (m.coded i h) (m.within i h)

  -- a pair ends before any later one starts
  apart : (i j : ℕ) → i < j → j < count → pair_end pairs i ≤ pair_offset pairs j
  unfolding last_end pair_end
  apart i zero h k = absurd (omega arith)
  apart i (suc j) h k = by_cases (dec_lt i j)
      (λ g. omega (arith, apart i j g (omega arith), m.sorted (suc j) k))
      (λ g. let same : i ≡ j = omega arith in rw same (m.sorted (suc j) k))

  -- one more proposition's ends are filled in
  pub one_more : (i : ℕ) (ends table : List ℕ) (r : ℕ) → i < count
      → Filled (prop_at names code (pair_offset pairs i)) ends (pair_offset pairs i) table r
      → ((j : ℕ) → j < i → Known names code ends (pair_offset pairs j))
      → (j : ℕ) → j < i + 1 → Known names code table (pair_offset pairs j)
  one_more i ends table r h w others j k = by_cases (dec_lt j i)
      (λ g. record {
        present = (others j g).present;
        ends = ends_kept table ends (pair_offset pairs j) (prop_at names code (pair_offset pairs j))
            (λ n low high. w.earlier n (omega (arith, apart j i g h, size_in j (omega arith)))) (others j g).ends;
      })
      (λ g. let same : j ≡ i = omega arith in rw same (record { present = present_in i h; ends = w.filled }))
