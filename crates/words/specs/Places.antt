-- Places in the text that is read: where a word, a name or expected bytes end.
use Rattle.std.specs.Prelude.{ℕ, ◌+◌, ◌-◌, ◌<◌, ◌≤◌, ◌≡◌, List, length, take, drop}
use Rattle.definitions.specs.Sheet.{name_length_limit}
use Rattle.definitions.specs.TermReader.{word, name, expect}
use Rattle.definitions.proofs.Readings.{given}

-- the bytes from one place to another
unfoldable pub between : ℕ → ℕ → List ℕ → List ℕ
between at r text = take (r - at) (drop at text)

-- the word at `at` ends at `r`
pub record WordEnds (text : List ℕ) (at r : ℕ) : Type 0 where
  pub from : at ≤ r
  pub within : r ≤ length text
  pub is : word (drop at text) ≡ record { value = between at r text; rest = drop r text }

-- the name at `at` ends at `r`
pub record NameEnds (text : List ℕ) (at r : ℕ) : Type 0 where
  pub within : r ≤ length text
  pub reads : name (drop at text) ≡ given (between at r text) (drop r text)
  pub from : at < r
  pub short : r ≤ at + name_length_limit

-- these bytes stand at `at` and end at `r`
pub record Expected (what text : List ℕ) (at r : ℕ) : Type 0 where
  pub within : r ≤ length text
  pub reads : expect what (drop at text) ≡ given tt (drop r text)
  pub after : r ≡ at + length what
