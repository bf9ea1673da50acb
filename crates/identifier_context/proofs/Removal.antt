-- The memory closed over the entry that a lookup finds holds the context without that entry.
use Prim.Native.Nat.{ℕ, zero, suc, ◌+◌, ◌-◌, ◌≤◌, ◌<◌}
use mathlib.Core.Path.{◌≡◌, sym, ◌∙◌}
use mathlib.Core.Bool.{Bool}
use Rattle.std.specs.Prelude.{Option, None, Some}
use mathlib.Core.List.{List}
use native.Mathlib.Omega.{arith}
use native.Mathlib.Decide.{dec_lt}
use lib.ListN.{length, drop, length-drop}
use lib.Seq.{length-paste}
use Rattle.std.proofs.lemmas.Grind.{common_steps}
use Rattle.definitions.specs.Name.{Name}
use Rattle.definitions.specs.IdentifierContext as definition
use Rattle.identifier_context.specs.declared.Entry.{Entry}
use Rattle.identifier_context.specs.declared.Lookup.{Lookup}
use Rattle.number.specs.Pairs.{NameWithin}
use Rattle.identifier_context.specs.Memory.{name_at, entry_at, context_of, Holds}
use Rattle.identifier_context.specs.Promises.{latest_at, entry_found, closed, closed_at, removed_at, entry_removed, length_after, admitted, Removes}
use Rattle.identifier_context.proofs.LatestEntry.{Search, searched, found_below, found_latest, without_none, without_some}
use Rattle.identifier_context.proofs.Lookups.{sought_latest, left_without}

module _ (before : List Entry) (n i : ℕ) (present : suc n ≤ length before) (h : i ≤ n) where
  -- an entry before the one that is taken out stays
  closed_earlier : (j : ℕ) → j < i → entry_at before j ≡ entry_at (closed before (suc n) i) j
  unfolding closed entry_at
  closed_earlier j l = grind (arith, common_steps)

  -- and a later one is moved down
  closed_later : (j : ℕ) → i ≤ j → j < n → entry_at before (suc j) ≡ entry_at (closed before (suc n) i) j
  unfolding closed entry_at
  closed_later j l m = grind (arith, common_steps)

  closed_length : length (closed before (suc n) i) ≡ length before
  unfolding closed
  closed_length = length-paste before i (drop (i + 1) before) (suc n - (i + 1)) (omega arith) (simp length-drop (omega arith))

module _ {name_of : ℕ → Name} {lookup : Lookup} {before : List Entry} where
  -- where the lookup finds nothing the memory stays
  pub removes_nothing : {n : ℕ} → latest_at (admitted name_of lookup) (context_of before n) ≡ None → Removes name_of lookup before before n None
  unfolding closed_at removed_at entry_removed length_after entry_found
  removes_nothing {n} missing =
      let search = rw missing at (searched (admitted name_of lookup) before n) in
      record {
        memory = rw missing;
        answer = rw missing;
        entry = found_latest _ _ search ∙ sought_latest name_of lookup (context_of before n);
        context = sym (without_none _ _ search) ∙ left_without name_of lookup (context_of before n);
      }

  -- else it is closed over the entry that is found
  pub removes_entry : {n i : ℕ} → n ≤ length before → latest_at (admitted name_of lookup) (context_of before n) ≡ Some i
      → Removes name_of lookup before (closed before n i) n (Some (entry_at before i, n - 1))
  unfolding closed_at removed_at entry_removed length_after entry_found
  removes_entry {n = zero} present found =
      let below = found_below _ _ (rw found at (searched (admitted name_of lookup) before zero)) in absurd (omega arith)
  removes_entry {n = suc n} {i} present found =
      let search = rw found at (searched (admitted name_of lookup) before (suc n)) in
      let below : i < suc n = found_below _ _ search in
      let one_less : suc n - 1 ≡ n = omega arith in
      record {
        memory = rw found;
        answer = rw found;
        entry = found_latest _ _ search ∙ sought_latest name_of lookup (context_of before (suc n));
        context =
            rw one_less
            (sym
            (without_some _ _ (closed before (suc n) i) n search
            (closed_earlier before n i present (omega arith))
            (closed_later before n i present (omega arith)))
            ∙ left_without name_of lookup (context_of before (suc n)));
      }

-- the entries that are left after a removal are there, and their names
module _ {pairs text : List ℕ} {before : List Entry} where
  closed_holds : (n i : ℕ) → i ≤ n → Holds pairs text before (suc n) → Holds pairs text (closed before (suc n) i) n
  closed_holds n i h holds =
      let there = holds.present in
      record { present = rw (closed_length before n i there h) (omega arith); named = λ j l. go j l (dec_lt j i) }
    where
      go : (j : ℕ) → j < n → Dec (j < i) → NameWithin pairs text (name_at (closed before (suc n) i) j)
      go j l (yes k) =
          rw (name_at, ← closed_earlier before n i holds.present h j k) (holds.named j (omega arith))
      go j l (no k) =
          rw (name_at, ← closed_later before n i holds.present h j (omega arith) l)
          (holds.named (suc j) (omega arith))

  closed_at_holds : (wanted : definition.Entry → Bool) (n : ℕ) (found : Option ℕ) → Search wanted before n found
      → Holds pairs text before n → Holds pairs text (closed_at before n found) (length_after n (removed_at before n found))
  unfolding closed_at removed_at length_after
  closed_at_holds wanted n None search holds = holds
  closed_at_holds wanted zero (Some i) search holds = let below = found_below wanted before search in absurd (omega arith)
  closed_at_holds wanted (suc n) (Some i) search holds =
      let below : i < suc n = found_below wanted before search in
      let one_less : suc n - 1 ≡ n = omega arith in
      rw one_less (closed_holds n i (omega arith) holds)

  pub removed_holds : {name_of : ℕ → Name} {lookup : Lookup} {after : List Entry} {n : ℕ} {r : Option (Entry × ℕ)} → Removes name_of lookup before after n r
      → Holds pairs text before n → Holds pairs text after (length_after n r)
  removed_holds {name_of} {lookup} {n} removes holds =
      rw (removes.memory, removes.answer)
      (closed_at_holds (admitted name_of lookup) n _ (searched (admitted name_of lookup) before n) holds)
