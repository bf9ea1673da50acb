-- The name at a place and its number.
use Rattle.std.proofs.Common.{◌≡◌, ℕ, zero, suc, ◌≤◌, Bool, true, false, ◌||◌, eqb, List, [], ◌∷◌, ◌++◌, length, get_or, take, refl, arith, take_all}
use Rattle.std.specs.List.{list_any}
use lib.Seq.{take-suc}
use Rattle.definitions.specs.Text.{occurs}
use Rattle.words.specs.Places.{NameEnds}
use Rattle.words.specs.Names.{NamePlace}
use Rattle.prop_parts.specs.Found.{bound_numbers}

pub name_place : {text : List ℕ} {at end : ℕ} → NameEnds text at end → NamePlace text at end
name_place ends = record { some = ends.from; few = ends.short; within = ends.within }

-- a number is bound where it is any of those in memory
any_append : (test : ℕ → Bool) (l : List ℕ) (b : ℕ) → list_any test (l ++ (b ∷ [])) ≡ (test b || list_any test l)
any_append test [] b = refl
any_append test (a ∷ l) b = rw (any_append test l b) (go (test a) (test b) (list_any test l))
  where
    go : (x y z : Bool) → x || (y || z) ≡ y || (x || z)
    go true true z = refl
    go true false z = refl
    go false y z = refl

same_turned : (a b : ℕ) → eqb a b ≡ eqb b a
same_turned a b = grind arith

any_of_first : (bound : List ℕ) (number n : ℕ) → n ≤ length bound
    → list_any (λ b. eqb b number) (take n bound) ≡ occurs eqb number (bound_numbers bound n)
unfolding bound_numbers occurs
any_of_first bound number zero h = refl
any_of_first bound number (suc n) h =
    rw (take-suc bound n 0 (omega arith), any_append (λ b. eqb b number) (take n bound) (get_or bound n 0), any_of_first bound number n (omega arith), same_turned (get_or bound n 0) number)

pub any_bound : (bound : List ℕ) (number : ℕ) → list_any (λ b. eqb b number) bound ≡ occurs eqb number (bound_numbers bound (length bound))
any_bound bound number = rw (take_all (length bound) bound (omega arith)) at (any_of_first bound number (length bound) (omega arith))
