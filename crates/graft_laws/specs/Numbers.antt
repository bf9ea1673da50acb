-- Names by their merged numbers, so that names of both sheets are compared as numbers.
use Rattle.std.specs.Prelude.{ℕ, List, [], length, get_or, unwrap_or}
use Rattle.definitions.specs.Name.{Name}
use Rattle.definitions.specs.Sheet.{name_of}
use Rattle.definitions.specs.NameIndex.{plain_search}
use Rattle.definitions.specs.Graft.{merged_names}

module _ (h d : List ℕ) where
  -- the lowest number of a name among the merged ones
  unfoldable pub merged_number : Name → ℕ
  merged_number x = unwrap_or (plain_search (λ i. get_or (merged_names h d) i []) (length (merged_names h d)) x) 0

  -- that of a name of the host
  unfoldable pub host_number : ℕ → ℕ
  host_number i = merged_number (name_of h i)
