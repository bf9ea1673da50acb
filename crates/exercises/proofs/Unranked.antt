-- The proposition at an ordinal, by its number of connectives, its root, the left part's size and the parts' indices.
use Prim.Native.Nat.{ℕ, zero, suc, ◌+◌, ◌*◌, ◌-◌, ◌/◌, ◌%◌, ◌≤◌, ◌<◌}
use mathlib.Core.Path.{◌≡◌, refl, sym, ◌∙◌, ap}
use mathlib.Core.Logic.{by_cases}
use mathlib.Core.List.{List, [], ◌∷◌, ◌++◌}
use native.Mathlib.Omega.{arith}
use native.Mathlib.Decide.{dec_le}
use native.Mathlib.Nat.{div-add-mod', div-lt_iff_lt-mul, mod-lt, mul-le-mul}
use lib.ListN.{length, get_or, length-append}
use Rattle.definitions.specs.Prop.{Prop, True, Binary, Connective, connective_byte}
use Rattle.definitions.specs.Code.{encode}
use Rattle.prefix_code.specs.declared.Connective as program
use Rattle.prefix_code.specs.declared.Connective.TheVariants.{And, Or, Impl}
use Rattle.prefix_code.specs.Shape.{meant}
use Rattle.definitions.specs.Exercises.{of_root, of_roots, sizes, of_size, exercises}
use Rattle.exercise_laws.specs.Counts.{before, each}
use Rattle.exercise_laws.proofs.Counts as counts
use Rattle.exercise_laws.proofs.Ordinals as at
use Rattle.exercises.specs.declared.Parts.{Parts}
use Rattle.exercises.specs.Sizes.{Few, size, prop_at, code_at, CountOf, LocatedAt, Divided, root_of}

-- few connectives are few for a part
pub fewer : {names k l : ℕ} → Few names k → l ≤ k → Few names l
fewer f h = record { names_few = f.names_few; connectives_few = omega (arith, f.connectives_few, h) }

module _ (names : ℕ) where
  -- how many have fewer than k connectives
  unfoldable pub earlier : ℕ → ℕ
  earlier zero = 0
  earlier (suc k) = length (exercises names k)

  pub earlier_next : (k : ℕ) → earlier (suc k) ≡ earlier k + size names k
  unfolding earlier exercises size
  earlier_next zero = omega arith
  earlier_next (suc k) = length-append (exercises names k) (of_size names (suc k))

  -- the first of each size comes after all of fewer connectives
  pub at_size : (n k index : ℕ) → k ≤ n → index < size names k
      → (earlier k + index < length (exercises names n)) × (get_or (exercises names n) (earlier k + index) True ≡ prop_at names k index)
  unfolding earlier exercises size
  at_size zero zero index h i = (omega arith, ap (λ j. get_or (of_size names 0) j True) (omega arith))
  at_size zero (suc k) index h i = absurd (omega arith)
  at_size (suc n) k index h i = by_cases (dec_le k n) (λ l. among (at_size n k index l i)) (λ l. last (omega arith))
    where
      total : length (exercises names n ++ of_size names (suc n)) ≡ length (exercises names n) + length (of_size names (suc n))
      total = length-append (exercises names n) (of_size names (suc n))

      among : (earlier k + index < length (exercises names n)) × (get_or (exercises names n) (earlier k + index) True ≡ get_or (of_size names k) index True)
          → (earlier k + index < length (exercises names (suc n))) × (get_or (exercises names (suc n)) (earlier k + index) True ≡ get_or (of_size names k) index True)
      among (below, same) = (omega (arith, total, below), at.in_earlier names n (earlier k + index) below ∙ same)

      last : k ≡ suc n → (earlier k + index < length (exercises names (suc n))) × (get_or (exercises names (suc n)) (earlier k + index) True ≡ get_or (of_size names k) index True)
      last e = rw e (omega (arith, total, (rw e at i)), at.in_last names n index)

  module _ (k : ℕ) where
    -- the lists of the sizes up to k have their sizes
    same_before : (l : ℕ) → l ≤ suc k → before (counts.lengths (sizes names k)) k l ≡ before (size names) k l
    unfolding counts.lengths size
    same_before l h =
        counts.same_before (counts.lengths (sizes names k)) (size names) k (λ j few. ap length (at.sizes_below names k j few)) l h

    same_each : each (counts.lengths (sizes names k)) k ≡ each (size names) k
    unfolding each
    same_each = same_before (suc k) (omega arith)

    -- each of the three roots has as many
    pub three_roots : size names (suc k) ≡ 3 * each (size names) k
    unfolding size
    three_roots = rw (at.next_size names k, counts.length_roots (sizes names k) k, same_each)

    -- the parts of what stands at an index among those of one root
    pub at_parts : (c : Connective) (i : ℕ) (r : Parts) → Divided names k i r
        → get_or (of_root c (sizes names k) k k) i True ≡ Binary c (prop_at names r.size r.left) (prop_at names (k - r.size) r.right)
    unfolding size
    at_parts c i r d =
        let f = sizes names k in
        let l = r.size in
        let left-list = at.sizes_below names k l d.few in
        let right-list = at.sizes_below names k (k - l) (omega arith) in
        let here = at.at_root c f k l k r.left r.right d.few (rw left-list d.left_below) (rw right-list d.right_below) in
        rw d.together (rw (left-list, right-list, same_before l (omega (arith, d.few))) at here)

-- the byte of each root
pub root_byte : (q : ℕ) (d : program.Connective) → q < 3 → connective_byte (meant (get_or (And ∷ Or ∷ Impl ∷ []) q d)) ≡ connective_byte (root_of q)
unfolding connective_byte root_of
root_byte zero d h = refl
root_byte (suc zero) d h = refl
root_byte (suc (suc zero)) d h = refl
root_byte (suc (suc (suc q))) d h = absurd (omega arith)

-- what stands at an index among those of k + 1 connectives, by its root
by_root : (f : ℕ → List (Prop ℕ)) (k q j : ℕ) → q < 3 → j < each (counts.lengths f) k → get_or (of_roots f k) (q * each (counts.lengths f) k + j) True ≡ get_or (of_root (root_of q) f k k) j True
unfolding root_of
by_root f k zero j h i = let start : 0 * each (counts.lengths f) k + j ≡ j = omega arith in rw start (at.at_and f k j i)
by_root f k (suc zero) j h i = let start : 1 * each (counts.lengths f) k + j ≡ each (counts.lengths f) k + j = omega arith in rw start (at.at_or f k j i)
by_root f k (suc (suc zero)) j h i = let start : 2 * each (counts.lengths f) k + j ≡ each (counts.lengths f) k + (each (counts.lengths f) k + j) = omega arith in rw start (at.at_impl f k j i)
by_root f k (suc (suc (suc q))) j h i = absurd (omega arith)

-- what stands at an index among those of k connectives, of which each root has e
pub record Root (names k i e : ℕ) : Type 0 where
  pub part : k ≡ suc (k - 1)
  pub below : i < 3 * e
  pub is : e ≡ each (size names) (k - 1)

pub root_of_lem : {names k i c : ℕ} → (k ≡ 0 → ⊥) → i < size names k → CountOf names k c → Root names k i (c / 3)
root_of_lem {names} {k} {i} {c} some below a =
    let part : k ≡ suc (k - 1) = omega arith in
    let three : size names k ≡ 3 * each (size names) (k - 1) = ap (size names) part ∙ three_roots names (k - 1) in
    record { part = part; below = omega (arith, three, below, a.is); is = omega (arith, three, a.is) }

module _ {names k i e : ℕ} (h : Root names k i e) where
  pub each_some : 0 < e
  each_some = omega (arith, h.below)

  pub root_below : i / e < 3
  root_below = (div-lt_iff_lt-mul each_some).1 h.below

  pub rest_below : i % e < each (size names) (k - 1)
  rest_below = rw (← h.is) (mod-lt i each_some)

  -- the root's byte, and the codes of the parts
  pub coded : (r : Parts) → Divided names (k - 1) (i % e) r
      → code_at names k i ≡ connective_byte (root_of (i / e)) ∷ (code_at names r.size r.left ++ code_at names (k - 1 - r.size) r.right)
  unfolding encode
  coded r d =
      let f = sizes names (k - 1) in
      let q = i / e in
      let j = i % e in
      let same : each (counts.lengths f) (k - 1) ≡ e = same_each names (k - 1) ∙ sym h.is in
      let split : q * e + j ≡ i = div-add-mod' i e in
      let here : get_or (of_roots f (k - 1)) i True ≡ get_or (of_root (root_of q) f (k - 1) (k - 1)) j True =
      rw split at (rw same at (by_root f (k - 1) q j root_below (rw same (mod-lt i each_some)))) in
      let list : of_size names k ≡ of_roots f (k - 1) = ap (of_size names) h.part ∙ at.next_size names (k - 1) in
      rw (list, here, at_parts names (k - 1) (root_of q) j r d)

-- The search for the block of the left part's size: l sizes are passed.
pub record Dividing (names k i l rest : ℕ) : Type 0 where
  pub few : l ≤ k
  pub sum : i ≡ before (size names) k l + rest

pub first_block : (names k i : ℕ) → Dividing names k i 0 i
unfolding before
first_block names k i = record { few = omega arith; sum = omega arith }

module _ {names k i l rest lefts rights : ℕ} (d : Dividing names k i l rest) (a : CountOf names l lefts) (b : CountOf names (k - l) rights) where
  pub product_bounded : lefts * rights ≤ 84375 * 84375
  product_bounded = mul-le-mul a.bounded b.bounded

  pub this_block : rest < lefts * rights → Divided names k i (record { size = l; left = rest / rights; right = rest % rights })
  this_block h =
      let is : rights ≡ size names (k - l) = b.is in
      let split : rest / rights * rights + rest % rights ≡ rest = div-add-mod' rest rights in
      let quotient : rest / rights < lefts = (div-lt_iff_lt-mul b.some).1 h in
      let remainder : rest % rights < rights = mod-lt rest b.some in
      record {
        few = d.few;
        left_below = rw (← a.is) quotient;
        right_below = rw (← b.is) remainder;
        together = rw (← is, split) d.sum;
      }

  pub next_block : i < each (size names) k → lefts * rights ≤ rest → Dividing names k i (suc l) (rest - lefts * rights)
  unfolding each
  next_block h past =
      let next : before (size names) k (suc l) ≡ before (size names) k l + lefts * rights = rw (a.is, b.is) (counts.before_next (size names) k l) in
      by_cases (dec_le (suc l) k)
      (λ g. record { few = g; sum = omega (arith, d.sum, next, past) })
      (λ g. let last : l ≡ k = omega (arith, d.few) in absurd (omega (arith, d.sum, (rw last at next), past, h, (rw last at d.sum))))

-- The search for the number of connectives: l sizes are passed.
pub record Locating (names n ordinal l index : ℕ) : Type 0 where
  pub few : l ≤ suc n
  pub sum : ordinal ≡ earlier names l + index

pub first_size : (names n ordinal : ℕ) → Locating names n ordinal 0 ordinal
unfolding earlier
first_size names n ordinal = record { few = omega arith; sum = omega arith }

module _ {names n ordinal l index : ℕ} (d : Locating names n ordinal l index) where
  pub this_size : {c : ℕ} → l ≤ n → CountOf names l c → index < c → LocatedAt names n ordinal l index
  this_size h a below =
      let under : index < size names l = rw (← a.is) below in
      let (within, same) = at_size names n l index h under in
      record { few = h; below = under; within = rw d.sum within; same = rw d.sum same }

  pub next_size : {c : ℕ} → l ≤ n → CountOf names l c → c ≤ index → Locating names n ordinal (suc l) (index - c)
  next_size h a past = let next = earlier_next names l in record { few = omega arith; sum = omega (arith, d.sum, next, a.is, past) }

  pub past_all : n < l → length (exercises names n) ≤ ordinal
  unfolding earlier
  past_all h = let last : l ≡ suc n = omega (arith, d.few) in omega (arith, (rw last at d.sum))
