-- The slots of the table are the index of its names: what they hold, what probing finds by them, and the table without names.
use Prim.Native.Nat.{ℕ, ◌*◌, ◌≤◌, ◌<◌}
use mathlib.Core.Path.{◌≡◌, sym, ap, ◌∙◌}
use Rattle.std.specs.Prelude.{Option, Ok, Err}
use mathlib.Core.List.{List}
use native.Mathlib.Omega.{arith}
use lib.ListN.{length, replicate}
use Rattle.definitions.specs.Name.{Name, eq_name}
use Rattle.definitions.specs.Sheet.{name_limit, pair_size, marked}
use Rattle.definitions.specs.TermText.{term_text_limit}
use Rattle.definitions.specs.NameIndex.{slot_count, free, slot_at, plain_search, find, index}
use Rattle.definitions.proofs.Lowest.{same_lowest}
use Rattle.name_index_laws.specs.Answered.{LowestNumber, is_lowest, there_is_none}
use Rattle.name_index_laws.proofs.Agreement.{index_agrees, index_answers}
use Rattle.name_index_laws.proofs.Entering.{indexed}
use Rattle.name_index_laws.proofs.Onward.{same_index}
use Rattle.name_index_laws.specs.Indexed.{Indexed}
use Rattle.name_index.specs.Probed.{Taken, held_or, probed}
use Rattle.name_index.proofs.Entering.{absent_below, none_entered}
use Rattle.words.specs.declared.name_table.NameTable.{NameTable}
use Rattle.words.specs.Names.{Table}
use Rattle.words.specs.Table.{searched}

-- What probing comes to, by what the search finds.
module _ (name : ℕ → Name) (n : ℕ) (x : Name) where
  -- i is the number of the first name with the bytes x
  pub record FirstName (i : ℕ) : Type 0 where
    pub below : i < n
    pub same : name i ≡ x
    pub earlier : (j : ℕ) → j < i → name j ≡ x → ⊥

  held_first : {o : Option ℕ} (slot i : ℕ) → LowestNumber name n x o → held_or o slot ≡ Ok i → FirstName i
  unfolding held_or
  held_first slot i (is_lowest {j} l same earlier) e =
      let here : j ≡ i = cc in
      rw (← here) (record { below = l; same = same; earlier = earlier })
  held_first slot i (there_is_none absent) e = absurd (grind arith)

  absent : {o : Option ℕ} (slot place : ℕ) → LowestNumber name n x o → held_or o slot ≡ Err place → (i : ℕ) → i < n → name i ≡ x → ⊥
  unfolding held_or
  absent slot place (is_lowest l same earlier) e = absurd (grind arith)
  absent slot place (there_is_none all) e = all

-- Names that agree below a count are found alike.
module _ (name name' : ℕ → Name) (n : ℕ) (few : n ≤ slot_count) (same : (i : ℕ) → i < n → name i ≡ name' i) (x : Name) where
  same_find : find name (index name n) x ≡ find name' (index name' n) x
  unfolding plain_search
  same_find =
      index_agrees name n x few
      ∙ (same_lowest _ _ n (λ i l. ap (λ y. eq_name y x) (same i l)) ∙ sym (index_agrees name' n x few))

  pub same_probed : probed name (index name n) x ≡ probed name' (index name' n) x
  unfolding probed
  same_probed = rw (same_find, same_index name name' n same)

module _ {text pairs slots : List ℕ} {count : ℕ} (table : Table text pairs slots count) where
  pub few_names : count ≤ slot_count
  unfolding name_limit slot_count
  few_names = omega (arith, table.few)

  pub slots_index : Indexed (marked pairs text) count slots
  slots_index = rw table.indexed (indexed (marked pairs text) count few_names)

  pub first_answers : (x : Name) → LowestNumber (marked pairs text) count x (find (marked pairs text) slots x)
  first_answers x = rw table.indexed (index_answers (marked pairs text) count x few_names)

module _ (held : NameTable) where
  pub slots_size : length held.slots ≡ slot_count
  slots_size = (slots_index held.table).size

  -- a slot that is not free holds the number of a name
  pub number_below : (slot : ℕ) → Taken held.slots slot → slot_at held.slots slot < held.count
  number_below slot taken = ((slots_index held.table).entered slot taken).0

  -- what probing says of the names
  module _ (x : Name) where
    pub first_held : {i : ℕ} → searched held x ≡ Ok i → FirstName (marked held.pairs held.text.now) held.count x i
    unfolding searched probed
    first_held {i} e = held_first (marked held.pairs held.text.now) held.count x _ i (first_answers held.table x) e

    pub none_held : {slot : ℕ} → searched held x ≡ Err slot → (i : ℕ) → i < held.count → marked held.pairs held.text.now i ≡ x → ⊥
    unfolding searched probed
    none_held {slot} e = absent (marked held.pairs held.text.now) held.count x _ slot (first_answers held.table x) e

    pub slot_inside : {slot : ℕ} → searched held x ≡ Err slot → slot < slot_count
    unfolding searched
    slot_inside e = absent_below _ _ _ e

-- A table without names: every slot is free.
pub no_names : {text pairs slots : List ℕ} → length text ≤ term_text_limit → length pairs ≡ pair_size * name_limit
    → slots ≡ replicate slot_count free → Table text pairs slots 0
unfolding name_limit
no_names {text} {pairs} short room free = record {
  short = short;
  room = room;
  few = omega arith;
  ends = λ j l. absurd (omega arith);
  indexed = none_entered (marked pairs text) free;
}
