-- The size of a tree: how many steps it has.
use Rattle.std.specs.Prelude.{ℕ, ◌+◌}
use Rattle.definitions.specs.Tree.{ProofTree, over, Premisses, none, ◌and◌}

module _ {N : Type 0} where
  unfoldable mutual
    pub size : ProofTree N → ℕ
    size (over z ps) = 1 + sizes ps

    pub sizes : Premisses N → ℕ
    sizes none = 0
    sizes (t and ps) = size t + sizes ps
