-- Counts as far as a number goes are added up so and cut at the most that a number holds; a record that keeps its own leaves all
-- terms, and the counts of earlier records, as they were.
use Prim.Native.Nat.{ℕ, ◌+◌, ◌*◌, ◌≤◌, ◌<◌, min}
use mathlib.Core.Path.{◌≡◌, refl, ◌∙◌}
use mathlib.Core.Logic.{by_cases}
use mathlib.Core.List.{List}
use native.Mathlib.Omega.{arith}
use native.Mathlib.Decide.{dec_lt}
use lib.ListN.{length, set, length-set}
use lib.Seq.{get_or-set_same, get_or-set_other}
use Rattle.definitions.specs.Prop.{Prop}
use Rattle.definitions.specs.TermText.{nodes}
use Rattle.proof_term.specs.Records.{record_size, field_at, term_at}
use Rattle.term_sizes.specs.Sizes.{most, CountedTo, Sized, SizesFilled}
use Rattle.term_sizes.proofs.Kept.{SameNumbers, terms_same}

-- the count itself
pub counted_so : (n : ℕ) → CountedTo n n
counted_so n = record { exact = λ l. refl; many = λ l. l }

-- a count and one more part
pub add_counted : {n r m k : ℕ} → CountedTo n r → CountedTo m k → CountedTo (n + m) (r + k)
add_counted {n} {r} {m} {k} a b = record {
  exact = λ l. let x = a.exact (omega arith) in let y = b.exact (omega arith) in omega arith;
  many = λ l. by_cases (dec_lt n most)
      (λ few. by_cases (dec_lt m most)
      (λ low. let x = a.exact few in let y = b.exact low in omega arith)
      (λ high. let y = b.many (omega arith) in omega arith))
      (λ all. let x = a.many (omega arith) in omega arith);
}

-- past the most, the most stands for it
pub cut_counted : {n r : ℕ} → CountedTo n r → CountedTo n (min r most)
cut_counted a = record { exact = λ l. let x = a.exact l in omega arith; many = λ l. let x = a.many l in omega arith }

-- the records below m keep their counts, and all other numbers are as they were
pub record Filled (before : List ℕ) (m : ℕ) (after : List ℕ) : Type 0 where
  pub sized : (k : ℕ) → k < m → Sized after k
  pub kept : SameNumbers after before
  pub long : length after ≡ length before

pub filled_all : {before after : List ℕ} {n m : ℕ} → n < m → Filled before m after → SizesFilled before n after
filled_all l f = record { sized = λ k h. f.sized k (omega arith); kept = f.kept; long = f.long }

-- Record m keeps its count.
module _ (records : List ℕ) (m count : ℕ) (held : record_size * (m + 1) ≤ length records) where
  abbrev kept_here : List ℕ
  kept_here = set records (record_size * m + 6) count

  others : SameNumbers kept_here records
  unfolding field_at
  others k i l = get_or-set_other records (record_size * m + 6) (record_size * k + i) count 0 (λ e. omega (arith, e))

  own : field_at kept_here m 6 ≡ count
  unfolding field_at
  own = get_or-set_same records (record_size * m + 6) count 0 (omega arith)

  earlier_own : (k : ℕ) → k < m → field_at kept_here k 6 ≡ field_at records k 6
  unfolding field_at
  earlier_own k l = get_or-set_other records (record_size * m + 6) (record_size * k + 6) count 0 (λ e. omega (arith, e))

  here_sized : ((props : ℕ → Prop ℕ) → CountedTo (nodes (term_at props records m)) count) → Sized kept_here m
  unfolding Sized
  here_sized h props = rw (own, terms_same props kept_here records others m) (h props)

  earlier_sized : (k : ℕ) → k < m → Sized records k → Sized kept_here k
  unfolding Sized
  earlier_sized k l h props = rw (earlier_own k l, terms_same props kept_here records others k) (h props)

  pub filled_more : {before : List ℕ} → Filled before m records → ((props : ℕ → Prop ℕ) → CountedTo (nodes (term_at props records m)) count)
      → Filled before (m + 1) kept_here
  filled_more f h = record {
    sized = λ k l. by_cases (dec_lt k m)
        (λ less. earlier_sized k less (f.sized k less))
        (λ same. let is : k ≡ m = omega arith in rw is (here_sized h));
    kept = λ k i l. others k i l ∙ f.kept k i l;
    long = simp length-set f.long;
  }
