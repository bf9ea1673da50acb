-- Ticket 13: every such proposition appears, each once.
use Rattle.std.specs.Prelude.{ℕ, ◌+◌, ◌≤◌, ◌<◌, ◌≡◌, List, []}
use Rattle.definitions.specs.Collection.{In, Once}
use Rattle.definitions.specs.Prop.{Prop, True, False, Binary, Atom, Quantified}

-- such a proposition: over ⊤, ⊥, the zero-place atoms of so many names, and binary connectives
unfoldable pub Over : ℕ → Prop ℕ → Type 0
Over names True = Unit {0}
Over names False = Unit {0}
Over names (Binary c p q) = Over names p × Over names q
Over names (Atom a ps) = (a < names) × (ps ≡ [])
Over names (Quantified q x t p) = ⊥

-- how many binary connectives it has
unfoldable pub connectives : Prop ℕ → ℕ
connectives True = 0
connectives False = 0
connectives (Binary c p q) = 1 + connectives p + connectives q
connectives (Atom a ps) = 0
connectives (Quantified q x t p) = connectives p

-- the list has every such proposition of at most n connectives and no other, each once
pub record EveryOnce (names n : ℕ) (l : List (Prop ℕ)) : Type 0 where
  pub only : (p : Prop ℕ) → In p l → Over names p × (connectives p ≤ n)
  pub every : (p : Prop ℕ) → Over names p → connectives p ≤ n → In p l
  pub once : Once l
