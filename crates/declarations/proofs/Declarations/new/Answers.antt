-- Nothing is noted, so every name has its flags and no chain has begun.
use mathlib.Core.Path.{refl}
use Rattle.definitions.specs.NameIndex.{slot_count}
use Rattle.declarations.proofs.Noting.{fresh_held}
use Rattle.declarations.proofs.Declarations.new.Goals as goal

pub invariant_of-result : goal.invariant_of-result
unfolding slot_count
invariant_of-result g c = record { held = fresh_held (record { none = refl; unseen = refl; unchained = refl }) c.requires }
