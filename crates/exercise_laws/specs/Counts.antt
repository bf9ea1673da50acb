-- Ticket 13: how many propositions there are of each number of connectives, without their list.
use Rattle.std.specs.Prelude.{ℕ, zero, suc, ◌+◌, ◌*◌, ◌-◌, cond, leb}

-- Of so many propositions of each size:
module _ (count : ℕ → ℕ) where
  -- of one root over two parts that have k connectives together, so many come before those whose left part has l
  unfoldable pub before : ℕ → ℕ → ℕ
  before k zero = 0
  before k (suc l) = before k l + count l * count (k - l)

  -- so many there are of one root
  unfoldable pub each : ℕ → ℕ
  each k = before k (suc k)

-- so many of exactly j connectives, for each j up to k
unfoldable pub counts : ℕ → ℕ → ℕ → ℕ
counts names zero j = 2 + names
counts names (suc k) j = cond (leb j k) (counts names k j) (3 * each (counts names k) k)

-- so many of at most n connectives
unfoldable pub total : ℕ → ℕ → ℕ
total names zero = counts names 0 0
total names (suc n) = total names n + counts names (suc n) (suc n)
