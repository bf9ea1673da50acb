-- The walk reaches the sorry of `fst (sorry: A ∧ B)` in an inferring place, at position 0.
use mathlib.Core.Path.{◌≡◌, refl}
use Rattle.std.specs.Prelude.{Some}
use mathlib.Core.List.{[], ◌∷◌}
use Rattle.definitions.specs.Tree.{root_of}
use Rattle.definitions.specs.Export.{checking, inferring}
use Rattle.definitions.specs.Drawings.{fst_of_sorry}
use Rattle.graft_laws.specs.Splicing.{reached, spot_below, below}
use Rattle.definitions.proofs.Everything.{everything}

sorry_reached : reached 0 (root_of fst_of_sorry) checking ≡ Some (record { place = inferring; position = 0 ∷ [] })
unfolding everything reached spot_below below
sorry_reached = refl
