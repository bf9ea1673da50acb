-- A name that is new: its pair is stored behind those of the others, and its number in the slot at which probing ended.
use Prim.Native.Nat.{ℕ, ◌+◌, ◌*◌, ◌-◌, ◌≤◌, ◌<◌}
use mathlib.Core.Path.{◌≡◌, refl, sym, ◌∙◌}
use mathlib.Core.List.{List, ◌∷◌}
use native.Mathlib.Omega.{arith}
use native.Mathlib.Numerals.{add-one}
use borrow.Author.Count.{below_more}
use lib.ListN.{length, set, take}
use Rattle.definitions.specs.Name.{Name}
use Rattle.definitions.specs.Sheet.{name_limit, pair_size, pair_offset, pair_length, pair_end, marked}
use Rattle.definitions.specs.NameIndex.{index}
use Rattle.name_index_laws.proofs.Onward.{same_index}
use Rattle.std.specs.Prelude.{Err}
use Rattle.name_index.specs.Probed.{probed}
use Rattle.name_index.proofs.Entering.{entered}
use Rattle.words.specs.declared.name_table.NameTable.{NameTable}
use Rattle.words.specs.Places.{between}
use Rattle.words.specs.Names.{add_name, added, number_in, first_names, Table, NamePlace, PairFits, with_pair}
use Rattle.words.specs.Table.{table_names, searched, NumberOf}
use Rattle.words.proofs.Stored.{stored_length, stored_kept, stored_first, stored_second}
use Rattle.words.proofs.Indexing.{few_names, same_probed}
use Rattle.words.proofs.Numbers.{names_length, end_kept, marked_kept, names_kept, unmet_name}

module _ {text pairs slots : List ℕ} {count at end : ℕ} (table : Table text pairs slots count) (room : count ≡ name_limit → ⊥) (place : NamePlace text at end) where
  one_less : count < name_limit
  one_less = omega (arith, table.few, room)

  pub pair_fits : PairFits pairs count at end
  unfolding pair_size name_limit
  pair_fits = record {
    room = omega (arith, table.room, one_less);
    some = place.some;
    few = place.few;
    near = omega (arith, place.within, table.short);
  }

  -- the pair
  abbrev paired : List ℕ
  paired = with_pair pairs count at end

  pub paired_length : length paired ≡ pair_size * name_limit
  unfolding with_pair
  paired_length = stored_length _ _ _ _ ∙ table.room

  room_left : 4 * count + 3 < length pairs
  unfolding pair_size name_limit
  room_left = omega (arith, table.room, one_less)

  paired_kept : take (pair_size * count) paired ≡ take (pair_size * count) pairs
  unfolding with_pair
  paired_kept = stored_kept pairs (pair_size * count) at (end - at) (pair_size * count) (omega arith)

  new_offset : pair_offset paired count ≡ at
  unfolding pair_offset with_pair pair_size
  new_offset = stored_first pairs (4 * count) at (end - at) room_left

  new_length : pair_length paired count ≡ end - at
  unfolding pair_length with_pair pair_size
  new_length = stored_second pairs (4 * count) at (end - at) room_left

  new_end : pair_end paired count ≤ length text
  unfolding pair_end
  new_end = rw (new_offset, new_length) (omega (arith, place.some, place.within))

  new_marked : marked paired text count ≡ between at end text
  unfolding marked between
  new_marked = rw (new_offset, new_length)

  ends_paired : (j : ℕ) → j < count + 1 → pair_end paired j ≤ length text
  ends_paired =
      below_more (λ j. pair_end paired j ≤ length text) count
      (λ j l. rw (end_kept pairs paired text count paired_kept j l) (table.ends j l)) new_end

  same_marked : (i : ℕ) → i < count → marked pairs text i ≡ marked paired text i
  same_marked i l = sym (marked_kept pairs paired text count paired_kept i l)

  -- and the number
  module _ {slot : ℕ} (absent : probed (marked pairs text) slots (between at end text) ≡ Err slot) where
    earlier_same : slots ≡ index (marked paired text) count
    earlier_same = table.indexed ∙ same_index (marked pairs text) (marked paired text) count same_marked

    probed_same : probed (marked paired text) (index (marked paired text) count) (between at end text) ≡ Err slot
    probed_same =
        let here : probed (marked pairs text) (index (marked pairs text) count) (between at end text) ≡ Err slot = rw table.indexed at absent in
        sym (same_probed (marked pairs text) (marked paired text) count (few_names table) same_marked (between at end text)) ∙ here

    slots_after : set slots slot count ≡ index (marked paired text) (count + 1)
    slots_after = rw earlier_same (entered (marked paired text) count refl one_less (sym new_marked) probed_same)

    pub table_after : Table text paired (set slots slot count) (count + 1)
    table_after = record {
      short = table.short;
      room = paired_length;
      few = omega (arith, one_less);
      ends = ends_paired;
      indexed = slots_after;
    }

-- The table with it:
module _
    (held : NameTable) {at end : ℕ} (room : held.count ≡ name_limit → ⊥) (place : NamePlace held.text.now at end)
    {slot : ℕ} (absent : searched held (between at end held.text.now) ≡ Err slot)
    (after : NameTable) (same : after.text.now ≡ held.text.now) (pairs_are : after.pairs ≡ with_pair held.pairs held.count at end) (count_is : after.count ≡ held.count + 1)
  where
    abbrev name : Name
    name = between at end held.text.now

    after_kept : take (pair_size * held.count) after.pairs ≡ take (pair_size * held.count) held.pairs
    after_kept = rw pairs_are (paired_kept held.table room place)

    after_marked : marked after.pairs held.text.now held.count ≡ name
    after_marked = rw pairs_are (new_marked held.table room place)

    names_after : table_names after ≡ name ∷ table_names held
    unfolding table_names first_names
    names_after =
        rw (count_is, same, add-one held.count, after_marked, names_kept held.pairs after.pairs held.text.now held.count after_kept held.count (omega arith)) refl

    pub one_more : NumberOf name held after held.count
    unfolding add_name added number_in
    one_more =
        let unmet = unmet_name held name absent in
        record {
          noted = record { same_text = same; names = rw unmet names_after; kept = after_kept; more = omega (arith, count_is) };
          number_is = rw (unmet, unmet) (sym (names_length held));
          below = omega (arith, count_is);
          marks = rw same after_marked;
        }
