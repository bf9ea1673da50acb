-- Ticket 13: the proposition at an ordinal, by its size, its root, the left part's size, and the ordinals of its parts. What a
-- program that finds it by division and remainder follows.
use Prim.Native.Nat.{ℕ, zero, suc, ◌+◌, ◌*◌, ◌-◌, ◌≤◌, ◌<◌}
use mathlib.Core.Path.{◌≡◌, refl, sym, ◌∙◌, ap}
use mathlib.Core.Logic.{by_cases}
use mathlib.Core.List.{List, [], ◌∷◌, ◌++◌, map}
use native.Mathlib.Omega.{arith}
use native.Mathlib.Decide.{dec_le}
use native.Mathlib.Nat.{suc-mul, mul-le-mul_right}
use lib.ListN.{length, get_or, length-map, get_or-append}
use lib.Seq.{get_or-append-add}
use borrow.Author.Tests.{le-leb, lt-leb}
use Rattle.definitions.specs.Prop.{Prop, True, False, Binary, Atom, Connective, and, or, impl}
use Rattle.definitions.specs.Exercises.{atoms_from, joined, of_root, of_roots, leaves, sizes, of_size, exercises}
use Rattle.exercise_laws.specs.Counts.{before, each}
use Rattle.exercise_laws.proofs.Counts.{before_next, lengths, length_root}

-- an element of a mapped list
at_map : {A B : Type 0} (f : A → B) (l : List A) (i : ℕ) (d : A) (e : B) → i < length l → get_or (map f l) i e ≡ f (get_or l i d)
at_map f [] i d e h = absurd (omega arith)
at_map f (a ∷ l) zero d e h = refl
at_map f (a ∷ l) (suc i) d e h = at_map f l i d e (omega arith)

-- the proposition over the parts at a and b
pub at_joined : (c : Connective) (ps qs : List (Prop ℕ)) (a b : ℕ) → a < length ps → b < length qs
    → get_or (joined c ps qs) (a * length qs + b) True ≡ Binary c (get_or ps a True) (get_or qs b True)
unfolding joined
at_joined c [] qs a b h k = absurd (omega arith)
at_joined c (p ∷ ps) qs zero b h k =
    let start : 0 * length qs + b ≡ b = omega arith in
    rw (start, get_or-append (map (Binary c p) qs) (joined c ps qs) True b (rw length-map k)) (at_map (Binary c p) qs b True True k)
at_joined c (p ∷ ps) qs (suc a) b h k =
    let size = length-map qs (Binary c p) in
    let next : suc a * length qs + b ≡ length (map (Binary c p) qs) + (a * length qs + b) = rw (suc-mul a (length qs), size) (omega arith) in
    rw (next, get_or-append-add (map (Binary c p) qs) (joined c ps qs) (a * length qs + b) True) (at_joined c ps qs a b (omega arith) k)

-- an ordinal in a block: of the left part among a, of the right part among b
pub in_block : (a b p q : ℕ) → a < p → b < q → a * q + b < p * q
in_block a b p q h k =
    let room : suc a * q ≤ p * q = mul-le-mul_right q h in
    let wide : a * q + q ≤ p * q = rw suc-mul at room in
    omega arith

-- Of a root over parts that have k connectives together:
module _ (c : Connective) (f : ℕ → List (Prop ℕ)) (k : ℕ) where
  -- among those whose left part has at most m connectives, in the block of the left part's size l, stands the proposition over the
  -- parts at a and b
  abbrev pub Stands : ℕ → ℕ → ℕ → ℕ → Type 0
  Stands m l a b =
      get_or (of_root c f k m) (before (lengths f) k l + (a * length (f (k - l)) + b)) True
      ≡ Binary c (get_or (f l) a True) (get_or (f (k - l)) b True)

  last_block : (l a b : ℕ) → a < length (f l) → b < length (f (k - l)) → Stands l l a b
  unfolding of_root before lengths
  last_block zero a b h i =
      let whole : k - 0 ≡ k = omega arith in
      let start : 0 + (a * length (f k) + b) ≡ a * length (f k) + b = omega arith in
      rw (whole, start) (at_joined c (f 0) (f k) a b h (rw whole at i))
  last_block (suc l) a b h i =
      let size : before (lengths f) k l + length (f l) * length (f (k - l)) ≡ length (of_root c f k l) = sym (length_root c f k l) in
      rw (size, get_or-append-add (of_root c f k l) (joined c (f (suc l)) (f (k - suc l))) (a * length (f (k - suc l)) + b) True)
      (at_joined c (f (suc l)) (f (k - suc l)) a b h i)

  at_last : (l m a b : ℕ) → m ≡ l → a < length (f l) → b < length (f (k - l)) → Stands m l a b
  at_last l m a b e i j = rw e (last_block l a b i j)

  before_grows : (l m : ℕ) → l ≤ m → before (lengths f) k l ≤ before (lengths f) k m
  before_grows l zero h = let none : l ≡ 0 = omega arith in rw none (omega arith)
  before_grows l (suc m) h = by_cases (dec_le l m)
      (λ i. let rest = before_grows l m i in omega (arith, before_next (lengths f) k m))
      (λ i. let last : l ≡ suc m = omega arith in rw last (omega arith))

  -- the block of the left part's size l begins where those with smaller left parts end
  pub at_root : (l m a b : ℕ) → l ≤ m → a < length (f l) → b < length (f (k - l)) → Stands m l a b
  unfolding of_root lengths
  at_root l zero a b h i j = at_last l 0 a b (omega arith) i j
  at_root l (suc m) a b h i j = by_cases (dec_le l m) (earlier (at_root l m a b)) (λ g. at_last l (suc m) a b (omega arith) i j)
    where
      earlier : (l ≤ m → a < length (f l) → b < length (f (k - l)) → Stands m l a b) → l ≤ m → Stands (suc m) l a b
      earlier again g =
          let block = in_block a b (length (f l)) (length (f (k - l))) i j in
          let up : before (lengths f) k (suc l) ≤ before (lengths f) k (suc m) = before_grows (suc l) (suc m) (omega arith) in
          let here = before_next (lengths f) k l in
          let at = before (lengths f) k l + (a * length (f (k - l)) + b) in
          rw (get_or-append (of_root c f k m) (joined c (f (suc m)) (f (k - suc m))) True at (omega (arith, length_root c f k m)))
          (again g i j)

-- Of the three roots, ∧ first, then ∨, then ⊃: each has as many.
module _ (f : ℕ → List (Prop ℕ)) (k i : ℕ) (h : i < each (lengths f) k) where
  pub at_and : get_or (of_roots f k) i True ≡ get_or (of_root and f k k) i True
  unfolding of_roots each
  at_and = get_or-append (of_root and f k k) (of_root or f k k ++ of_root impl f k k) True i (omega (arith, length_root and f k k))

  pub at_or : get_or (of_roots f k) (each (lengths f) k + i) True ≡ get_or (of_root or f k k) i True
  unfolding of_roots each
  at_or =
      rw (← length_root and f k k, get_or-append-add (of_root and f k k) (of_root or f k k ++ of_root impl f k k) i True)
      (get_or-append (of_root or f k k) (of_root impl f k k) True i (omega (arith, length_root or f k k)))

  pub at_impl : get_or (of_roots f k) (each (lengths f) k + (each (lengths f) k + i)) True ≡ get_or (of_root impl f k k) i True
  unfolding of_roots each
  at_impl =
      let each_of = before (lengths f) k (suc k) in
      let first : each_of + (each_of + i) ≡ length (of_root and f k k) + (length (of_root or f k k) + i) =
      omega (arith, length_root and f k k, length_root or f k k) in
      rw (first, get_or-append-add (of_root and f k k) (of_root or f k k ++ of_root impl f k k) (length (of_root or f k k) + i) True)
      (get_or-append-add (of_root or f k k) (of_root impl f k k) i True)

-- Over so many names:
module _ (names : ℕ) where
  -- the leaves
  atom_at : (first count i : ℕ) → i < count → get_or (atoms_from first count) i True ≡ Atom (first + i) []
  unfolding atoms_from
  atom_at first zero i h = absurd (omega arith)
  atom_at first (suc count) zero h = ap (λ n. Atom n []) (omega arith)
  atom_at first (suc count) (suc i) h = atom_at (suc first) count i (omega arith) ∙ ap (λ n. Atom n []) (omega arith)

  pub leaf_true : get_or (of_size names 0) 0 True ≡ True
  unfolding of_size sizes leaves
  leaf_true = refl

  pub leaf_false : get_or (of_size names 0) 1 True ≡ False
  unfolding of_size sizes leaves
  leaf_false = refl

  pub leaf_atom : (i : ℕ) → i < names → get_or (of_size names 0) (suc (suc i)) True ≡ Atom i []
  unfolding of_size sizes leaves
  leaf_atom i h = atom_at 0 names i h ∙ ap (λ n. Atom n []) (omega arith)

  -- the parts come from the lists of fewer connectives
  pub sizes_below : (k j : ℕ) → j ≤ k → sizes names k j ≡ of_size names j
  unfolding of_size sizes
  sizes_below zero j h = let none : j ≡ 0 = omega arith in rw none
  sizes_below (suc k) j h = by_cases (dec_le j k)
      (λ l. rw (le-leb j k l) (sizes_below k j l))
      (λ l. let last : j ≡ suc k = omega arith in rw last)

  pub next_size : (k : ℕ) → of_size names (suc k) ≡ of_roots (sizes names k) k
  unfolding of_size sizes
  next_size k = rw (lt-leb (suc k) k (omega arith))

  -- fewer connectives come first
  pub in_earlier : (n i : ℕ) → i < length (exercises names n) → get_or (exercises names (suc n)) i True ≡ get_or (exercises names n) i True
  unfolding exercises
  in_earlier n i h = get_or-append (exercises names n) (of_size names (suc n)) True i h

  pub in_last : (n i : ℕ) → get_or (exercises names (suc n)) (length (exercises names n) + i) True ≡ get_or (of_size names (suc n)) i True
  unfolding exercises
  in_last n i = get_or-append-add (exercises names n) (of_size names (suc n)) i True
