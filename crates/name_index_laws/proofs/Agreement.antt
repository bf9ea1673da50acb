-- The index answers as the plain search does.
use Prim.Native.Nat.{ℕ, zero, suc, ◌+◌, ◌≤◌, ◌<◌}
use mathlib.Core.Path.{◌≡◌, refl, sym, ap, ◌∙◌}
use mathlib.Core.Bool.{Bool, true, false, cond}
use Rattle.std.specs.Prelude.{Option, None, Some}
use mathlib.Core.List.{List}
use native.Mathlib.Omega.{arith}
use lib.Dec.{eqb}
use borrow.Author.Tests.{eqb-false, ne_eqb}
use Rattle.definitions.specs.Name.{Name, eq_name}
use Rattle.definitions.specs.Sheet.{name_limit, names, name_of}
use Rattle.definitions.specs.NameIndex.{slot_count, free, start_slot, slot_at, plain_search, find_from, find, index, index_of}
use Rattle.definitions.proofs.Names.{eq_name_true, eq_name_of_ne, eq_name_of_eq}
use Rattle.name_index_laws.specs.Indexed.{AllTaken, First, Indexed}
use Rattle.name_index_laws.specs.Answered.{LowestNumber, is_lowest, there_is_none}
use Rattle.name_index_laws.proofs.PlainSearch.{plain_search_lowest, apart_first, one_first}
use Rattle.name_index_laws.proofs.Entering.{indexed}

module _ (name : ℕ → Name) where
  module _ {n : ℕ} {slots : List ℕ} (w : Indexed name n slots) (x : Name) where
    -- no name has these bytes
    finds_none : ((i : ℕ) → i < n → name i ≡ x → ⊥) → (more at : ℕ) → find_from name slots x more at ≡ None
    unfolding find_from
    finds_none absent zero at = refl
    finds_none absent (suc more) at = go (eqb (slot_at slots at) free) refl (finds_none absent more (at + 1))
      where
        go : (b : Bool) → eqb (slot_at slots at) free ≡ b → find_from name slots x more (at + 1) ≡ None
            → cond b None (cond (eq_name (name (slot_at slots at)) x) (Some (slot_at slots at)) (find_from name slots x more (at + 1))) ≡ None
        go true is again = refl
        go false is again =
            let below = (w.entered at (eqb-false (slot_at slots at) free is)).0 in
            rw (eq_name_of_ne (absent (slot_at slots at) below)) again

    -- name j is the first with these bytes, and stands so many slots on
    module _ (j : ℕ) (small : j < free) (same : name j ≡ x) (first : First name j) where
      finds_it : (steps more at : ℕ) → steps < more → slot_at slots (at + steps) ≡ j → AllTaken slots at steps
          → find_from name slots x more at ≡ Some j
      unfolding find_from
      finds_it steps zero at h here before = absurd (omega arith)
      finds_it zero (suc more) at h here before =
          let z : at + 0 ≡ at = omega arith in
          let here' : slot_at slots at ≡ j = rw z at here in
          rw (here', ne_eqb j free (λ (q : j ≡ free). omega arith), eq_name_of_eq same)
      finds_it (suc steps) (suc more) at h here before =
          go (eq_name (name (slot_at slots at)) x) refl
          (finds_it steps more (at + 1) (omega arith) (rw (← (next steps)) here) (λ i b. rw (← (next i)) (before (suc i) (omega arith))))
        where
          next : (i : ℕ) → at + suc i ≡ (at + 1) + i
          next i = omega arith

          taken_here : slot_at slots at ≡ free → ⊥
          taken_here = let z : at + 0 ≡ at = omega arith in rw z at (before 0 (omega arith))

          go : (b : Bool) → eq_name (name (slot_at slots at)) x ≡ b → find_from name slots x more (at + 1) ≡ Some j
              → cond (eqb (slot_at slots at) free) None (cond b (Some (slot_at slots at)) (find_from name slots x more (at + 1))) ≡ Some j
          go true is again =
              let is-first = (w.entered at taken_here).1 in
              let z : slot_at slots at ≡ j = one_first name _ j is-first first (eq_name_true is ∙ sym same) in
              rw (ne_eqb (slot_at slots at) free taken_here, z)
          go false is again = rw (ne_eqb (slot_at slots at) free taken_here) again

    -- of the search's answer by what it says
    agrees : n ≤ free → {o : Option ℕ} → LowestNumber name n x o → find name slots x ≡ o
    unfolding find
    agrees small (there_is_none absent) = finds_none absent slot_count (start_slot x)
    agrees small (is_lowest {j} l same earlier) =
        let first = apart_first name j (λ i b e. earlier i b (e ∙ same)) in
        let s = w.stands j l first in
        let start : start_slot (name j) ≡ start_slot x = ap start_slot same in
        finds_it j (omega arith) same first s.steps slot_count (start_slot x) s.within
        (rw start at s.here) (λ i b. rw start at (s.before i b))

  module _ (n : ℕ) (x : Name) (few : n ≤ slot_count) where
    -- the index of the names below a count agrees with the plain search on every name
    pub index_agrees : find name (index name n) x ≡ plain_search name n x
    unfolding slot_count free
    index_agrees = agrees (indexed name n few) x (omega arith) (plain_search_lowest name n x)

    -- so it answers the lowest number with equal bytes, or that there is none
    pub index_answers : LowestNumber name n x (find name (index name n) x)
    index_answers = rw index_agrees (plain_search_lowest name n x)

-- a sheet's index agrees with the plain search of its names
pub sheet_agrees : (s : List ℕ) (x : Name) → names s ≤ name_limit → find (name_of s) (index_of s) x ≡ plain_search (name_of s) (names s) x
unfolding index_of name_limit slot_count
sheet_agrees s x l = index_agrees (name_of s) (names s) x (omega arith)
