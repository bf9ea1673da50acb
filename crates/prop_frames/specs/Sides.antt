-- The two sides of a connective.
use Rattle.std.specs.Prelude.{ℕ, ◌+◌, ◌<◌, ◌≤◌, ◌≡◌, Bool, true, false, ◌&&◌, List, ◌∷◌, length, drop, take, Option, MatchOption}
use Rattle.definitions.specs.Name.{Name}
use Rattle.definitions.specs.Prop.{Prop, Binary, Connective, connective_byte}
use Rattle.definitions.specs.Display.{precedence, is_negation, wraps_left, wraps_right}
use Rattle.definitions.specs.TermReader.{Shown, standing, same, goes_on}
use Rattle.definitions.proofs.Readings.{given}
use Rattle.std.proofs.lemmas.List.Edits.{sets}
use Rattle.prefix_code.specs.declared.Connective as read
use Rattle.prefix_code.specs.Shape.{meant}
use Rattle.prop_parts.specs.Found.{code_reach}
use Rattle.atom_reader.specs.declared.PropRead.{PropRead}
use Rattle.atom_reader.specs.Reading.{Measured}

-- the connective at a place that binds at least so strongly, and where it ends
pub record GoesOnAt (text : List ℕ) (at least : ℕ) (r : read.Connective × ℕ) : Type 0 where
  pub end_is : r.1 ≡ at + 5
  pub within : r.1 ≤ length text
  pub reads : goes_on least (drop at text) ≡ given (meant r.0) (drop r.1 text)

-- whether both sides stand in the brackets that are due, and this is no negation
unfoldable pub sides_agree : Connective → Shown (Prop Name) → Shown (Prop Name) → Bool
sides_agree c p q =
    same p.own (wraps_left c (precedence p.shown))
    && (same q.own (wraps_right c (precedence q.shown)) && same (is_negation c q.shown) false)

-- the memory with one byte in front of so many from `to` on
unfoldable pub inserted : List ℕ → ℕ → ℕ → ℕ → List ℕ
inserted l to size b = sets l to (b ∷ take size (drop to l))

-- two sides may be joined: where the right one ends, and how large they are at most
pub record Joinable (text : List ℕ) (to : ℕ) (left right : PropRead) : Type 0 where
  pub within : right.end ≤ length text
  pub near : to + (left.size + right.size) < code_reach
  pub left_shallow : left.nesting < code_reach
  pub right_shallow : right.nesting < code_reach

-- the whole that is made of two sides, and what became of the code
pub record JoinedGiven
    (c : Connective) (p q : Prop Name) (code : List ℕ) (to : ℕ) (left right : PropRead) (code' : List ℕ) (r : PropRead) : Type 0 where
  pub agrees : sides_agree c (standing left.own p) (standing right.own q) ≡ true
  pub end_is : r.end ≡ right.end
  pub own_is : r.own ≡ false
  pub measured : Measured r (Binary c p q)
  pub stored : code' ≡ inserted code to (left.size + right.size) (connective_byte c)

-- the whole, or none where the sides do not agree with the connective
pub record Joins
    (c : Connective) (p q : Prop Name) (text code : List ℕ) (to : ℕ) (left right : PropRead) (code' : List ℕ) (r : Option PropRead) : Type 0 where
  pub answer : MatchOption r (sides_agree c (standing left.own p) (standing right.own q) ≡ false) (JoinedGiven c p q code to left right code')
