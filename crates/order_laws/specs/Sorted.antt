-- Ticket 8: version 3's declarations are the same collection as version 2's, each once, and ascend.
use Rattle.std.specs.Prelude.{Bool, ◌↔◌, List}
use Rattle.std.specs.declared.cmp.Ordering.{Ordering}
use Rattle.definitions.specs.declared.Version.TheVariants.{Second, Third}
use Rattle.definitions.specs.Collection.{In, Once}
use Rattle.definitions.specs.Text.{firsts, arranged}
use Rattle.order_laws.specs.Ordered.{Ascending}

-- the same stand in both
unfoldable pub SameCollection : {A : Type 0} → List A → List A → Type 0
SameCollection {A} l m = (a : A) → In a l ↔ In a m

-- of uses, told apart by a test and sorted by a comparison
pub record SortedAs {A : Type 0} (same : A → A → Bool) (compare : A → A → Ordering) (uses : List A) : Type 0 where
  pub collection : SameCollection (arranged compare Third (firsts same uses)) (arranged compare Second (firsts same uses))
  pub once : Once (arranged compare Third (firsts same uses))
  pub ascends : Ascending compare (arranged compare Third (firsts same uses))
