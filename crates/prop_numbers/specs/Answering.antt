-- What the functions over propositions as numbers say.
use Rattle.std.specs.Prelude.{ℕ, ◌+◌, ◌≡◌, Bool, cond, List, get_or, Some, Result, Ok, Err, MatchResult}
use Rattle.definitions.specs.Name.{Name}
use Rattle.definitions.specs.Prop.{Prop, rename_prop, connective_byte}
use Rattle.definitions.specs.Equal.{eq_prop}
use Rattle.prefix_code.specs.Scan.{Scanned}
use Rattle.prefix_code.specs.declared.Connective.{Connective}
use Rattle.prefix_code.specs.declared.Connective.TheVariants.{And}
use Rattle.prefix_code.specs.Shape.{meant}
use Rattle.prop_numbers.specs.declared.Made.{Made}
use Rattle.prop_numbers.specs.Standing.{name_space, Rep, Distinct, connective_of, left_of}

-- the test whether two numbers have equal propositions, by every naming by different names
pub record Alike (code : List ℕ) (made : List Made) (p q : ℕ) (r : Bool) : Type 0 where
  pub is : {lo hi lo' hi' : ℕ} {a b : Prop ℕ} → Rep code made lo hi p a → Rep code made lo' hi' q b
      → (f : ℕ → Name) → Distinct f → r ≡ eq_prop (rename_prop f a) (rename_prop f b)

-- nothing where they are equal; else the node
pub record Agreed (code : List ℕ) (made : List Made) (p q node : ℕ) (x : Result (Unit {0}) ℕ) : Type 0 where
  pub test : Bool
  pub alike : Alike code made p q test
  pub is : x ≡ cond test (Ok tt) (Err node)

-- what stands at p has that connective, and its left side ends there
pub record Side (code : List ℕ) (p : ℕ) (c : Connective) (end : ℕ) : Type 0 where
  pub byte : get_or code p 0 ≡ connective_byte (meant c)
  pub scanned : Scanned name_space code (p + 1) end

-- it has not: then the node
pub record NoSide (code : List ℕ) (p : ℕ) (c : Connective) (node n : ℕ) : Type 0 where
  pub other : get_or code p 0 ≡ connective_byte (meant c) → ⊥
  pub at : n ≡ node

-- where its left side ends, or the node
abbrev pub SideOf : List ℕ → ℕ → Connective → ℕ → Result ℕ ℕ → Type 0
SideOf code p c node r = MatchResult r (Side code p c) (NoSide code p c node)

-- a proposition must have a connective: itself, or else the node
pub record Expected (code : List ℕ) (made : List Made) (p : ℕ) (c : Connective) (node : ℕ) (x : Result ℕ ℕ) : Type 0 where
  pub found : connective_of code made p ≡ Some c → x ≡ Ok p
  pub other : (connective_of code made p ≡ Some c → ⊥) → x ≡ Err node

-- the left side of a number
abbrev pub FirstSide : List Made → ℕ → ℕ → Type 0
FirstSide made p x = x ≡ left_of made p

-- a side of a proposition, which must be ∧, or else the node
pub record Projected (code : List ℕ) (made : List Made) (p : ℕ) (Side : ℕ → ℕ → Type 0) (node : ℕ) (x : Result ℕ ℕ) : Type 0 where
  pub side : connective_of code made p ≡ Some And → (q : ℕ) × (x ≡ Ok q) × Side p q
  pub other : (connective_of code made p ≡ Some And → ⊥) → x ≡ Err node
