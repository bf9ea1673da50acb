-- All bytes may follow where each of them may.
use mathlib.Core.Path.{◌≡◌, refl, ap}
use mathlib.Core.Bool.{◌&&◌}
use mathlib.Core.List.{List, [], ◌∷◌}
use Prim.Native.Nat.{ℕ}
use Rattle.std.specs.List.{list_all}
use Rattle.definitions.specs.Name.{byte_class, may_follow, all_may_follow}

pub all_follow : (s : List ℕ) → all_may_follow s ≡ list_all (λ b. may_follow (byte_class b)) s
unfolding all_may_follow
all_follow [] = refl
all_follow (b ∷ s) = ap (λ t. may_follow (byte_class b) && t) (all_follow s)
