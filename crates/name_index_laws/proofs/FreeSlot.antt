-- A free slot is found from every place on, round the end, where not all are taken.
use Prim.Native.Nat.{ℕ, zero, suc, ◌+◌, ◌-◌, ◌%◌, ◌≤◌, ◌<◌}
use mathlib.Core.Path.{◌≡◌, refl}
use mathlib.Core.Bool.{Bool, true, false, cond}
use mathlib.Core.List.{List, [], ◌∷◌}
use native.Mathlib.Omega.{arith}
use native.Mathlib.Decide.{dec_lt}
use lib.ListN.{length, get_or, set, replicate}
use lib.Dec.{eqb}
use borrow.Author.Tests.{eqb-true, eqb-false, eq-eqb, ne_eqb}
use Rattle.definitions.specs.NameIndex.{slot_count, free, slot_at, free_from}
use Rattle.name_index_laws.specs.Indexed.{taken, AllTaken}

-- one more slot is taken
pub taken_set : (l : List ℕ) (i a : ℕ) → i < length l → get_or l i free ≡ free → taken (set l i a) ≤ 1 + taken l
unfolding taken
taken_set [] i a h e = absurd (omega arith)
taken_set (b ∷ l) zero a h e = rw (eq-eqb b free e) (at_most_lem (eqb a free))
  where
    at_most_lem : (c : Bool) → cond c 0 1 + taken l ≤ 1 + (0 + taken l)
    at_most_lem true = omega arith
    at_most_lem false = omega arith
taken_set (b ∷ l) (suc i) a h e = omega (arith, taken_set l i a (omega arith) e)

pub none_taken : (n : ℕ) → taken (replicate n free) ≡ 0
unfolding taken
none_taken zero = refl
none_taken (suc n) = rw (eq-eqb free free refl) (omega (arith, none_taken n))

-- where no slot is free, as many are taken as there are
all_taken : (l : List ℕ) → ((i : ℕ) → i < length l → get_or l i free ≡ free → ⊥) → taken l ≡ length l
unfolding taken
all_taken [] h = refl
all_taken (a ∷ l) h =
    rw (ne_eqb a free (h 0 (omega arith))) (omega (arith, all_taken l (λ i b. h (suc i) (omega arith))))

module _ (slots : List ℕ) where
  -- p is a free slot so many places on, and those before it are taken
  pub record Freed (at more p : ℕ) : Type 0 where
    pub steps : ℕ
    pub within : steps < more
    pub place : p ≡ (at + steps) % slot_count
    pub is_free : slot_at slots (at + steps) ≡ free
    pub before : AllTaken slots at steps

  freed_here : (at more : ℕ) → slot_at slots at ≡ free → Freed at (suc more) (at % slot_count)
  freed_here at more e =
      let z : at + 0 ≡ at = omega arith in
      record { steps = 0; within = omega arith; place = rw z; is_free = rw z e; before = λ i l. absurd (omega arith) }

  -- a taken slot is stepped over
  one_over : (at more : ℕ) → (slot_at slots at ≡ free → ⊥) → AllTaken slots (at + 1) more → AllTaken slots at (suc more)
  one_over at more here all zero l e = let z : at + 0 ≡ at = omega arith in here (rw z at e)
  one_over at more here all (suc i) l e =
      let z : at + suc i ≡ (at + 1) + i = omega arith in
      all i (omega arith) (rw z at e)

  freed_later : (at more p : ℕ) → (slot_at slots at ≡ free → ⊥) → Freed (at + 1) more p → Freed at (suc more) p
  freed_later at more p here f =
      let z : at + suc f.steps ≡ (at + 1) + f.steps = omega arith in
      record {
        steps = suc f.steps;
        within = omega (arith, f.within);
        place = rw z f.place;
        is_free = rw z f.is_free;
        before = one_over at f.steps here f.before;
      }

  free_found : (more at : ℕ) → (AllTaken slots at more → ⊥) → Freed at more (free_from slots more at)
  unfolding free_from
  free_found zero at some_free = absurd (some_free (λ i l. absurd (omega arith)))
  free_found (suc more) at some_free = go (eqb (slot_at slots at) free) refl (free_found more (at + 1))
    where
      go : (b : Bool) → eqb (slot_at slots at) free ≡ b
          → ((AllTaken slots (at + 1) more → ⊥) → Freed (at + 1) more (free_from slots more (at + 1)))
          → Freed at (suc more) (cond b (at % slot_count) (free_from slots more (at + 1)))
      go true is again = freed_here at more (eqb-true (slot_at slots at) free is)
      go false is again =
          let here = eqb-false (slot_at slots at) free is in
          freed_later at more (free_from slots more (at + 1)) here (again (λ all. some_free (one_over at more here all)))

  -- once round, every slot is met
  met : (at i : ℕ) → at < slot_count → i < slot_count → AllTaken slots at slot_count → get_or slots i free ≡ free → ⊥
  unfolding slot_count slot_at
  met at i l b all e = go (dec_lt i at)
    where
      go : Dec (i < at) → ⊥
      go (yes h) =
          let z : (at + ((1024 - at) + i)) % 1024 ≡ i = omega arith in
          all ((1024 - at) + i) (omega arith) (rw z e)
      go (no h) =
          let z : (at + (i - at)) % 1024 ≡ i = omega arith in
          all (i - at) (omega arith) (rw z e)

  some_free : (at : ℕ) → at < slot_count → length slots ≡ slot_count → taken slots < slot_count → AllTaken slots at slot_count → ⊥
  some_free at l size few all =
      omega (arith, all_taken slots (λ i b e. met at i l (rw size at b) all e))

  pub freed : (at : ℕ) → at < slot_count → length slots ≡ slot_count → taken slots < slot_count
      → Freed at slot_count (free_from slots slot_count at)
  freed at l size few = free_found slot_count at (some_free at l size few)
