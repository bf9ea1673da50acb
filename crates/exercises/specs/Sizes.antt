-- Propositions by their number of connectives.
use Rattle.std.specs.Prelude.{ℕ, zero, suc, ◌+◌, ◌*◌, ◌-◌, ◌≤◌, ◌<◌, ◌≡◌, List, length, get_or, Option, Some, None}
use Rattle.definitions.specs.Prop.{Prop, True, Connective, and, or, impl}
use Rattle.definitions.specs.Code.{encode}
use Rattle.definitions.specs.Exercises.{of_size, exercises}
use Rattle.exercise_laws.specs.Counts.{before}
use Rattle.exercises.specs.declared.Place.{Place}
use Rattle.exercises.specs.declared.Parts.{Parts}

-- at most three names, and at most three connectives
pub record Few (names k : ℕ) : Type 0 where
  pub names_few : names ≤ 3
  pub connectives_few : k ≤ 3

-- so many propositions have k connectives
unfoldable pub size : ℕ → ℕ → ℕ
size names k = length (of_size names k)

-- what stands at an index among those of k connectives, and its code
abbrev pub prop_at : ℕ → ℕ → ℕ → Prop ℕ
prop_at names k index = get_or (of_size names k) index True

abbrev pub code_at : ℕ → ℕ → ℕ → List ℕ
code_at names k index = encode (prop_at names k index)

-- their number, with the bounds that it has for few names and connectives
pub record CountOf (names k count : ℕ) : Type 0 where
  pub is : count ≡ size names k
  pub some : 0 < count
  pub bounded : count ≤ 84375

-- what stands at an ordinal: its number of connectives and its index among those of as many, or the ordinal is past the end
pub record LocatedAt (names n ordinal k index : ℕ) : Type 0 where
  pub few : k ≤ n
  pub below : index < size names k
  pub within : ordinal < length (exercises names n)
  pub same : get_or (exercises names n) ordinal True ≡ prop_at names k index

abbrev pub Located : ℕ → ℕ → ℕ → Option Place → Type 0
Located names n ordinal (Some p) = LocatedAt names n ordinal p.size p.index
Located names n ordinal None = length (exercises names n) ≤ ordinal

-- the parts of what stands at an index among those of one root
pub record Divided (names k i : ℕ) (r : Parts) : Type 0 where
  pub few : r.size ≤ k
  pub left_below : r.left < size names r.size
  pub right_below : r.right < size names (k - r.size)
  pub together : i ≡ before (size names) k r.size + (r.left * size names (k - r.size) + r.right)

-- the roots as they are numbered
unfoldable pub root_of : ℕ → Connective
root_of zero = and
root_of (suc zero) = or
root_of (suc (suc n)) = impl
