-- Propositions as numbers: the offset of a code that stands, or past those the node that made it of two others.
use Rattle.std.specs.Prelude.{ℕ, ◌+◌, ◌-◌, ◌≤◌, ◌<◌, ◌≡◌, List, length, get_or, set, ltb, eqb, cond, Option, None, Some}
use Rattle.definitions.specs.Name.{Name}
use Rattle.definitions.specs.Prop.{Prop, Binary}
use Rattle.prefix_code.specs.Scan.{Absent, Scanned, proposition_coding}
use Rattle.prefix_code.specs.Shape.{meant}
use Rattle.prefix_code.specs.declared.Connective.{Connective}
use Rattle.prefix_code.specs.declared.Connective.TheVariants.{And, Or, Impl}
use Rattle.prop_numbers.specs.declared.Made.{Made}
use Rattle.prefix_code.specs.PropAt.{prop_at, Present}

-- so many bytes of code may stand: a sheet's 8,192 and 131,072 of the labels of a term read beside it, then ⊤ and ⊥
abbrev pub standing : ℕ
standing = 8192 + 131072 + 2

-- so many nodes a term may have
abbrev pub node_limit : ℕ
node_limit = 2048

-- every proposition's number is below this
abbrev pub number_limit : ℕ
number_limit = standing + node_limit

-- name numbers are below this
abbrev pub name_space : ℕ
name_space = 1024

-- slot k of what is made
abbrev pub slot : List Made → ℕ → Made
slot slots k = get_or slots k (record { connective = None; left = 0; right = 0 })

-- code stands at that offset
pub record Stood (code : List ℕ) (p : ℕ) : Type 0 where
  pub low : p < standing
  pub there : Present name_space code p

-- what is made is ∧, or ⊃ with a left side that stands
unfoldable pub Shaped : Connective → Type 0 → Type 0
Shaped And left = Prim.Unit {0}
Shaped Or left = ⊥
Shaped Impl left = left

-- The proposition of a number. Node k of the term has slot k. What is made, is made by nodes
-- from `lo` on and before `hi`.
pub data Rep (code : List ℕ) (made : List Made) : ℕ → ℕ → ℕ → Prop ℕ → Type 0 where
  stands : {lo hi p : ℕ} → p < standing → Present name_space code p → Rep code made lo hi p (prop_at name_space code p)
  -- its sides are made by later nodes
  made : {lo hi : ℕ} (k : ℕ) (c : Connective) {a b : Prop ℕ} → lo ≤ k → k < hi
      → (slot made k).connective ≡ Some c → Shaped c (Stood code (slot made k).left)
      → Rep code made (k + 1) hi (slot made k).left a → Rep code made (k + 1) hi (slot made k).right b
      → Rep code made lo hi (standing + k) (Binary (meant c) a b)

-- a number has a proposition, made before node 2,048
pub record Known (code : List ℕ) (made : List Made) (p : ℕ) : Type 0 where
  pub lo : ℕ
  pub hi : ℕ
  pub prop : Prop ℕ
  pub rep : Rep code made lo hi p prop
  pub last : hi ≤ node_limit

-- a number is a proposition's, as far as it can be looked up
pub record Space (code : List ℕ) (made : List Made) (p : ℕ) : Type 0 where
  pub low : p < number_limit
  pub inside : p < standing → p < length code
  pub few : length code ≤ standing
  pub slots : length made ≡ node_limit

-- the connective that a byte in front stands for, if it is a connective's
unfoldable pub in_front : ℕ → Option Connective
in_front byte = cond (eqb byte 2) (Some And) (cond (eqb byte 3) (Some Or) (cond (eqb byte 4) (Some Impl) None))

-- its connective, if it is binary, and the numbers of its sides; `end` is where the left side's code ends
unfoldable pub connective_of : List ℕ → List Made → ℕ → Option Connective
connective_of code slots p = cond (ltb p standing) (in_front (get_or code p 0)) (slot slots (p - standing)).connective

unfoldable pub left_of : List Made → ℕ → ℕ
left_of slots p = cond (ltb p standing) (p + 1) (slot slots (p - standing)).left

unfoldable pub right_of : List Made → ℕ → ℕ → ℕ
right_of slots p end = cond (ltb p standing) end (slot slots (p - standing)).right

-- what `right` gives: where the left side's code ends, and past the end of the code where none stands, or the number that was made
pub record RightOf (code : List ℕ) (slots : List Made) (p r : ℕ) : Type 0 where
  pub scanned : p < standing → Present name_space code (p + 1) → Scanned name_space code (p + 1) r
  pub past : p < standing → Absent (proposition_coding name_space) code (p + 1) → length code < r
  pub is : r ≡ right_of slots p r

-- only the slots from `lo` on and before `hi` may have changed
pub record Kept (lo hi : ℕ) (before after : List Made) : Type 0 where
  pub long : length after ≡ length before
  pub below : (k : ℕ) → k < lo → slot after k ≡ slot before k
  pub above : (k : ℕ) → hi ≤ k → slot after k ≡ slot before k

-- slot k holds these
unfoldable pub slotted : List Made → ℕ → Connective → ℕ → ℕ → List Made
slotted slots k c left right = set slots k (record { connective = Some c; left = left; right = right })

-- different numbers are different names
unfoldable pub Distinct : (ℕ → Name) → Type 0
Distinct f = (x y : ℕ) → f x ≡ f y → x ≡ y
