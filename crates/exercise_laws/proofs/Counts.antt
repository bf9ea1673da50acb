-- Ticket 13: how long the list is, by computation of the counts and not of the list.
use Prim.Native.Nat.{ℕ, zero, suc, ◌+◌, ◌*◌, ◌-◌, ◌≤◌}
use mathlib.Core.Path.{◌≡◌, refl, ◌∙◌, ap}
use mathlib.Core.Logic.{by_cases}
use mathlib.Core.List.{List, [], ◌∷◌, ◌++◌, map}
use native.Mathlib.Omega.{arith}
use native.Mathlib.Decide.{dec_le}
use native.Mathlib.Nat.{suc-mul, add_comm}
use lib.ListN.{length, length-append, length-map}
use borrow.Author.Tests.{le-leb, lt-leb}
use Rattle.definitions.specs.Prop.{Prop, Binary, Connective, and, or, impl}
use Rattle.definitions.specs.Exercises.{atoms_from, joined, of_root, of_roots, leaves, sizes, of_size, exercises}
use Rattle.exercise_laws.specs.Counts.{before, each, counts, total}

pub before_next : (count : ℕ → ℕ) (k l : ℕ) → before count k (suc l) ≡ before count k l + count l * count (k - l)
unfolding before
before_next count k l = refl

-- counts that agree up to k agree on what comes before
pub same_before : (f g : ℕ → ℕ) (k : ℕ) → ((j : ℕ) → j ≤ k → f j ≡ g j) → (l : ℕ) → l ≤ suc k → before f k l ≡ before g k l
unfolding before
same_before f g k same zero h = refl
same_before f g k same (suc l) h =
    rw (same_before f g k same l (omega arith), same l (omega arith), same (k - l) (omega arith))

-- so many propositions a table of lists has of each size
unfoldable pub lengths : (ℕ → List (Prop ℕ)) → ℕ → ℕ
lengths f j = length (f j)

pub length_joined : (c : Connective) (ps qs : List (Prop ℕ)) → length (joined c ps qs) ≡ length ps * length qs
unfolding joined
length_joined c [] qs = omega arith
length_joined c (p ∷ ps) qs =
    length-append (map (Binary c p) qs) (joined c ps qs) ∙ rw (length-map qs (Binary c p), length_joined c ps qs) (more (length ps) (length qs))
  where
    more : (a b : ℕ) → b + a * b ≡ suc a * b
    more a b = rw suc-mul (add_comm b (a * b))

-- one root, and all three
pub length_root : (c : Connective) (f : ℕ → List (Prop ℕ)) (k l : ℕ) → length (of_root c f k l) ≡ before (lengths f) k (suc l)
unfolding of_root before lengths
length_root c f k zero = length_joined c (f 0) (f k) ∙ (let whole : k - 0 ≡ k = omega arith in rw whole (omega arith))
length_root c f k (suc l) =
    length-append (of_root c f k l) (joined c (f (suc l)) (f (k - suc l)))
    ∙ rw (length_root c f k l, length_joined c (f (suc l)) (f (k - suc l)))

pub length_roots : (f : ℕ → List (Prop ℕ)) (k : ℕ) → length (of_roots f k) ≡ 3 * each (lengths f) k
unfolding of_roots each
length_roots f k =
    length-append (of_root and f k k) (of_root or f k k ++ of_root impl f k k)
    ∙ rw (length-append (of_root or f k k) (of_root impl f k k), length_root and f k k, length_root or f k k, length_root impl f k k) (omega arith)

length_atoms : (first count : ℕ) → length (atoms_from first count) ≡ count
unfolding atoms_from
length_atoms first zero = refl
length_atoms first (suc count) = ap suc (length_atoms (suc first) count)

length_sizes : (names k j : ℕ) → length (sizes names k j) ≡ counts names k j
unfolding sizes counts leaves each lengths
length_sizes names zero j = omega (arith, length_atoms 0 names)
length_sizes names (suc k) j = by_cases (dec_le j k)
    (λ l. rw (le-leb j k l) (length_sizes names k j))
    (λ l.
    let same = same_before (lengths (sizes names k)) (counts names k) k (λ i h. length_sizes names k i) (suc k) (omega arith) in
    rw (lt-leb j k (omega arith), length_roots (sizes names k) k, same))

-- so many of exactly k connectives
pub length_of_size : (names k : ℕ) → length (of_size names k) ≡ counts names k k
unfolding of_size
length_of_size names k = length_sizes names k k

-- so many of at most n
pub length_exercises : (names n : ℕ) → length (exercises names n) ≡ total names n
unfolding exercises total
length_exercises names zero = length_of_size names 0
length_exercises names (suc n) =
    length-append (exercises names n) (of_size names (suc n)) ∙ rw (length_exercises names n, length_of_size names (suc n))

-- the ticket's figures: three names, and 0 to 3 connectives
pub sizes_of_three : map (λ k. counts 3 k k) (0 ∷ 1 ∷ 2 ∷ 3 ∷ []) ≡ 5 ∷ 75 ∷ 2250 ∷ 84375 ∷ []
unfolding counts each before
sizes_of_three = refl

pub total_of_three : length (exercises 3 3) ≡ 86705
unfolding total counts each before
total_of_three = length_exercises 3 3
