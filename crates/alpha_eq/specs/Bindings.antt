-- What the quantifiers above a place bind: the numbers of two names for each, the latest first.
use Rattle.std.specs.Prelude.{ℕ, ⊤, List, [], ◌∷◌}
use Rattle.definitions.specs.Name.{Name}
use Rattle.definitions.specs.Comparison.{Binding}
use Rattle.identifier.specs.Pairs.{PairsWithin}
use Rattle.alpha_eq.specs.declared.BoundObjects.{BoundObjects}
use Rattle.alpha_eq.specs.declared.Binders.{Binders}
use Rattle.alpha_eq.specs.declared.Binders.TheOpen.{Binders-F}
use Rattle.alpha_eq.specs.declared.Binders.TheFolds.{fold-Binders}

-- the objects of a chain, those of each frame before those of the frames above
abbrev pub numbers_step : Binders-F (List BoundObjects) → List BoundObjects
numbers_step Binders-F.Empty = []
numbers_step (Binders-F.Latest objects earlier) = objects ∷ earlier.now

abbrev pub numbers : Binders → List BoundObjects
numbers = fold-Binders (List BoundObjects) numbers_step

-- the names that they are
module _ (name_of : ℕ → Name) where
  unfoldable pub binding_of : BoundObjects → Binding
  binding_of p = record { left = name_of p.left; right = name_of p.right }

  unfoldable pub bindings_of : List BoundObjects → List Binding
  bindings_of [] = []
  bindings_of (p ∷ ps) = binding_of p ∷ bindings_of ps

-- their numbers mark names of the text
abbrev pub Bound : (pairs text : List ℕ) → List BoundObjects → Type 0
Bound pairs text [] = ⊤
Bound pairs text (p ∷ ps) = PairsWithin pairs text p.left × PairsWithin pairs text p.right × Bound pairs text ps
