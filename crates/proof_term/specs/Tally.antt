-- The tally of a record: the label count of its term, as far as a u16 holds it. Document 02, ticket 10.
use Rattle.std.specs.Prelude.{ℕ, zero, suc, ◌+◌, ◌<◌, min, ◌≡◌, cond, List, length, get_or}
use Rattle.definitions.specs.Prop.{Prop}
use Rattle.definitions.specs.Term.{annotation_count}
use Rattle.proof_term.specs.Records.{field_at, part_count, Each, term_at}
use Rattle.proof_term.specs.Labels.{has_label}

-- the most that a tally says
abbrev pub tally_limit : ℕ
tally_limit = 65535

-- the parts of record m are earlier records
abbrev pub PartsEarlier : List ℕ → ℕ → Type 0
PartsEarlier records m =
    Each (λ part. part < m) (part_count (field_at records m 0)) (field_at records m 1) (field_at records m 2) (field_at records m 3)

-- the tally that record n keeps
unfoldable pub tally_at : List ℕ → ℕ → ℕ
tally_at records n = field_at records n 6

-- how many labels a record has itself
unfoldable pub own_count : ℕ → ℕ → ℕ
own_count kind label = cond (has_label kind label) 1 0

-- the sum of the first values
unfoldable pub sum_of : ℕ → (ℕ → ℕ) → ℕ
sum_of zero f = 0
sum_of (suc n) f = sum_of n f + f n

-- a number and the values of some parts, as far as the limit
unfoldable pub sum_over : ℕ → List ℕ → (ℕ → ℕ) → ℕ
sum_over own parts value = min (own + sum_of (length parts) (λ i. value (get_or parts i 0))) tally_limit

-- the tally of a record of this kind by its numbers a, b and c: its own label and the tallies of its parts, as far as the limit
unfoldable pub tally_over : List ℕ → ℕ → List ℕ → ℕ
tally_over records kind numbers =
    min (own_count kind (get_or numbers 2 0) + sum_of (part_count kind) (λ i. tally_at records (get_or numbers i 0))) tally_limit

-- each record below `used` has earlier records for parts, and keeps the label count of its term, as far as the limit
pub record Tallied (records : List ℕ) (used : ℕ) : Type 0 where
  pub parts : (m : ℕ) → m < used → PartsEarlier records m
  pub cut_counts : (m : ℕ) → m < used → (props : ℕ → Prop ℕ) → tally_at records m ≡ min (annotation_count (term_at props records m)) tally_limit

-- a node of the term that record n holds: its own record, or that of a part of a node
pub data Node (records : List ℕ) (n : ℕ) : ℕ → Type 0 where
  root : Node records n n
  part_of : {m i : ℕ} → Node records n m → i < part_count (field_at records m 0) → field_at records m (1 + i) < m → Node records n (field_at records m (1 + i))

-- at each node of the term that record n holds, the tally is the label count of the term at that node
pub record NodesTallied (records : List ℕ) (n : ℕ) : Type 0 where
  pub counts : {m : ℕ} → Node records n m → (props : ℕ → Prop ℕ) → tally_at records m ≡ annotation_count (term_at props records m)
