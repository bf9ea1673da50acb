-- Names enter one after the other, and the index stays one.
use Prim.Native.Nat.{ℕ, zero, suc, ◌+◌, ◌%◌, ◌≤◌, ◌<◌}
use mathlib.Core.Path.{◌≡◌, refl, sym, ◌∙◌}
use Rattle.std.specs.Prelude.{Option, None, Some}
use mathlib.Core.Bool.{cond}
use mathlib.Core.List.{List}
use native.Mathlib.Omega.{arith}
use native.Mathlib.Decide.{ℕ_discrete}
use lib.ListN.{length, get_or, set, replicate, length-set, length-replicate, get_or-replicate}
use lib.Seq.{get_or-set_same, get_or-set_other}
use Rattle.definitions.specs.Name.{Name}
use Rattle.definitions.specs.Admission.{is_none}
use Rattle.definitions.specs.NameIndex.{slot_count, free, start_slot, slot_at, free_from, plain_search, enter, index}
use Rattle.name_index_laws.specs.Indexed.{First, Stands, Indexed}
use Rattle.name_index_laws.proofs.FreeSlot.{taken_set, none_taken, Freed, freed}

-- a slot that was filled, and another
slot_filled : (slots : List ℕ) (p a at : ℕ) → length slots ≡ slot_count → p < slot_count → at % slot_count ≡ p
    → slot_at (set slots p a) at ≡ a
unfolding slot_at
slot_filled slots p a at size l e = rw e (get_or-set_same slots p a free (rw size l))

slot_kept : (slots : List ℕ) (p a at : ℕ) → (at % slot_count ≡ p → ⊥) → slot_at (set slots p a) at ≡ slot_at slots at
unfolding slot_at
slot_kept slots p a at other = get_or-set_other slots p (at % slot_count) a free other

start_below : (x : Name) → start_slot x < slot_count
unfolding start_slot slot_count
start_below x = omega arith

module _ (name : ℕ → Name) where
  module _ {n : ℕ} {slots : List ℕ} (w : Indexed name n slots) (small : n < slot_count) where
    -- the slot that name n takes
    abbrev place : ℕ
    place = free_from slots slot_count (start_slot (name n))

    found_free : Freed slots (start_slot (name n)) slot_count place
    found_free = freed slots (start_slot (name n)) (start_below (name n)) w.size (omega (arith, w.few))

    place_below : place < slot_count
    unfolding slot_count
    place_below = omega (arith, found_free.place)

    place_free : get_or slots place free ≡ free
    unfolding slot_at
    place_free = rw (← found_free.place) at found_free.is_free

    -- a taken slot is not that one
    apart : (at : ℕ) → (slot_at slots at ≡ free → ⊥) → at % slot_count ≡ place → ⊥
    unfolding slot_at
    apart at h e = h (rw e place_free)

    not_free : (j : ℕ) → j < n → j ≡ free → ⊥
    unfolding free slot_count
    not_free j l e = omega arith

    stands_kept : (j : ℕ) → j < n → Stands name slots j → Stands name (set slots place n) j
    stands_kept j l s =
        let start = start_slot (name j) in
        record {
          steps = s.steps;
          within = s.within;
          here =
              slot_kept slots place n (start + s.steps)
              (apart (start + s.steps) (λ e. not_free j l (sym s.here ∙ e)))
              ∙ s.here;
          before = λ i b e. s.before i b (sym (slot_kept slots place n (start + i) (apart (start + i) (s.before i b))) ∙ e);
        }

    stands_new : Stands name (set slots place n) n
    stands_new =
        let f = found_free in
        let start = start_slot (name n) in
        record {
          steps = f.steps;
          within = f.within;
          here = slot_filled slots place n (start + f.steps) w.size place_below (sym f.place);
          before = λ i b e. f.before i b (sym (slot_kept slots place n (start + i) (apart (start + i) (f.before i b))) ∙ e);
        }

    entered_new : First name n → (at : ℕ) → (slot_at (set slots place n) at ≡ free → ⊥)
        → (slot_at (set slots place n) at < suc n) × First name (slot_at (set slots place n) at)
    entered_new first at h = go (ℕ_discrete (at % slot_count) place)
      where
        go : Dec (at % slot_count ≡ place)
            → (slot_at (set slots place n) at < suc n) × First name (slot_at (set slots place n) at)
        go (yes e) = rw (slot_filled slots place n at w.size place_below e) (omega arith, first)
        go (no e) =
            let z = slot_kept slots place n at e in
            let (l, f) = w.entered at (λ q. h (z ∙ q)) in
            rw z (omega arith, f)

    -- a first name takes the free slot
    entering : First name n → Indexed name (suc n) (set slots place n)
    entering first =
        record {
          size = length-set slots place n ∙ w.size;
          few = omega (arith, w.few, taken_set slots place n (rw w.size place_below) place_free);
          entered = entered_new first;
          stands = stand;
        }
      where
        stand : (j : ℕ) → j < suc n → First name j → Stands name (set slots place n) j
        stand j l f = go (ℕ_discrete j n)
          where
            go : Dec (j ≡ n) → Stands name (set slots place n) j
            go (yes e) = rw e stands_new
            go (no e) = stands_kept j (omega arith) (w.stands j (omega arith) f)

    -- a repeat does not enter
    repeating : (First name n → ⊥) → Indexed name (suc n) slots
    repeating again =
        record {
          size = w.size;
          few = omega (arith, w.few);
          entered = λ at h. let (l, f) = w.entered at h in (omega arith, f);
          stands = stand;
        }
      where
        stand : (j : ℕ) → j < suc n → First name j → Stands name slots j
        stand j l f = go (ℕ_discrete j n)
          where
            go : Dec (j ≡ n) → Stands name slots j
            go (yes e) = absurd (again (rw e at f))
            go (no e) = w.stands j (omega arith) f

    entered_name : Indexed name (suc n) (enter name slots n)
    unfolding enter First is_none
    entered_name = go (plain_search name n (name n)) refl
      where
        go : (o : Option ℕ) → plain_search name n (name n) ≡ o
            → Indexed name (suc n) (cond (is_none o) (set slots place n) slots)
        go None is = entering is
        go (Some i) is = repeating (λ f. grind arith)

  empty_slot : (at : ℕ) → slot_at (replicate slot_count free) at ≡ free
  unfolding slot_at slot_count
  empty_slot at = get_or-replicate 1024 (at % 1024) free free (omega arith)

  -- so it is of the names below a count
  pub indexed : (n : ℕ) → n ≤ slot_count → Indexed name n (index name n)
  unfolding index
  indexed zero h =
      record {
        size = length-replicate slot_count free;
        few = omega (arith, none_taken slot_count);
        entered = λ at e. absurd (e (empty_slot at));
        stands = λ j l. absurd (omega arith);
      }
  indexed (suc n) h = entered_name (indexed n (omega arith)) (omega arith)
