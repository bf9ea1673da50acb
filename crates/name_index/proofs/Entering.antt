-- A name enters the index of the names before it.
use Rattle.std.proofs.Common.{◌≡◌, ℕ, ◌+◌, ◌<◌, List, set, replicate, sym, refl, add-one, arith}
use Rattle.std.specs.Prelude.{Option, None, Some, Ok, Err}
use Rattle.definitions.specs.Name.{Name}
use Rattle.definitions.specs.Sheet.{name_limit}
use Rattle.definitions.specs.Admission.{is_none}
use Rattle.definitions.specs.NameIndex.{slot_count, free, start_slot, plain_search, find, enter, index}
use Rattle.name_index_laws.proofs.Agreement.{index_agrees}
use Rattle.name_index.specs.Probed.{held_or, probed}
use Rattle.name_index.proofs.Probing.{free_slot_below}

-- What the answer of probing says of the search and of the free slot.
held : (o : Option ℕ) (p i : ℕ) → held_or o p ≡ Ok i → o ≡ Some i
unfolding held_or
held None p i e = absurd (grind arith)
held (Some j) p i e = cc

absent : (o : Option ℕ) (p at : ℕ) → held_or o p ≡ Err at → (o ≡ None) × (p ≡ at)
unfolding held_or
absent None p at e = (refl, cc)
absent (Some j) p at e = absurd (grind arith)

module _ (name : ℕ → Name) (slots : List ℕ) (x : Name) where
  pub found_held : {i : ℕ} → probed name slots x ≡ Ok i → Some i ≡ (find name slots x)
  unfolding probed
  found_held e = rw (held _ _ _ e)

  pub found_absent : {at : ℕ} → probed name slots x ≡ Err at → None ≡ (find name slots x)
  unfolding probed
  found_absent e = rw (absent _ _ _ e).0

  pub absent_below : {at : ℕ} → probed name slots x ≡ Err at → at < slot_count
  unfolding probed
  absent_below e = rw (absent _ _ _ e).1 at (free_slot_below slots slot_count (start_slot x))

module _ (name : ℕ → Name) (n : ℕ) {slots : List ℕ} (is : slots ≡ index name n) where
  finds : n < name_limit → plain_search name n (name n) ≡ find name slots (name n)
  unfolding name_limit slot_count
  finds l = rw is (sym (index_agrees name n (name n) (omega arith)))

  enters : enter name slots n ≡ index name (n + 1)
  unfolding index
  enters = rw (is, add-one)

  -- a repeat leaves the index as it is
  pub repeated : {x : Name} {i : ℕ} → n < name_limit → x ≡ name n → probed name slots x ≡ Ok i → slots ≡ index name (n + 1)
  unfolding enter is_none probed
  repeated l own e = let e' = rw own at e in rw (finds l, held _ _ _ e') at enters

  -- a first name takes the first free slot
  pub entered : {x : Name} {at : ℕ} → n < name_limit → x ≡ name n → probed name slots x ≡ Err at
      → set slots at n ≡ index name (n + 1)
  unfolding enter is_none probed
  entered l own e =
      let (none_held, place) = absent _ _ _ (rw own at e) in
      rw (finds l, none_held, place) at enters

-- before the first name
pub none_entered : (name : ℕ → Name) {slots : List ℕ} → slots ≡ replicate slot_count free → slots ≡ index name 0
unfolding index
none_entered name e = e
