-- Node counts kept in records: the last number of a record is how many nodes its term has, as far as a number goes.
use Rattle.std.specs.Prelude.{ℕ, ◌≤◌, ◌<◌, ◌≡◌, List, length, ltb, cond}
use Rattle.definitions.specs.Prop.{Prop}
use Rattle.definitions.specs.TermText.{nodes}
use Rattle.proof_term.specs.Records.{field_at, term_at}

-- the most that a number of a record holds
abbrev pub most : ℕ
most = 65535

-- r is n, as far as a number goes
pub record CountedTo (n r : ℕ) : Type 0 where
  pub exact : n < most → r ≡ n
  pub many : most ≤ n → most ≤ r

-- record k keeps its node count; no proposition that a label may stand for changes it
unfoldable pub Sized : List ℕ → ℕ → Type 0
Sized records k = (props : ℕ → Prop ℕ) → CountedTo (nodes (term_at props records k)) (field_at records k 6)

-- the nodes that a part of record m keeps; what is no earlier record counts as a leaf
unfoldable pub part_size : List ℕ → ℕ → ℕ → ℕ
part_size records m part = cond (ltb part m) (field_at records part 6) 1

-- the records up to n keep their node counts, and all other numbers are as they were
pub record SizesFilled (before : List ℕ) (n : ℕ) (after : List ℕ) : Type 0 where
  pub sized : (k : ℕ) → k ≤ n → Sized after k
  pub kept : (k i : ℕ) → i < 6 → field_at after k i ≡ field_at before k i
  pub long : length after ≡ length before
