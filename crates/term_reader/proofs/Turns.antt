-- The turns begin at the start of the text.
use Prim.Native.Nat.{ℕ}
use mathlib.Core.Path.{◌≡◌, refl, sym, subst}
use mathlib.Core.List.{List, []}
use Rattle.std.specs.Prelude.{Option, MatchOption}
use native.Mathlib.Omega.{arith}
use lib.ListN.{length}
use Rattle.definitions.specs.TermMemory.{labels_size, store_labels}
use Rattle.reading_laws.specs.Marks.{entries_marks, nodes_met, names_met, limited_met}
use Rattle.reading_laws.proofs.OnTheWay.{reached_first}
use Rattle.words.specs.declared.name_table.NameTable.{NameTable}
use Rattle.words.specs.Names.{added, first_names}
use Rattle.words.specs.Table.{table_names}
use Rattle.term_stack.specs.declared.State.{State}
use Rattle.term_stack.specs.declared.State.TheVariants.{Reading, Holding, Giving}
use Rattle.term_stack.specs.declared.Work.{Work}
use Rattle.term_stack.specs.Numbers.{labels_met, code_met, stack_of, stack_records}
use Rattle.term_stack.specs.Standing.{Scene, AtState, left_of}
use Rattle.term_stack.specs.Using.{Refuses, Turned}
use Rattle.term_stack.specs.Turning.{scene_of}
use Rattle.term_reader.specs.declared.TermSize.{TermSize}
use Rattle.term_reader.specs.Between.{ReadBegins}
use Rattle.term_reader.specs.Whole.{ReadEnds}

-- the loop: the machine is between two turns, and the lent memory is as long as it was
pub record Looping (list text code₀ : List ℕ) (names : NameTable) (code : List ℕ) (work : Work) (state : State) : Type 0 where
  pub there : AtState (scene_of list text names code₀ code) work state
  pub code_size : length code ≡ length code₀

-- where the machine is, the table is of the text that is read
pub at_text : (z : Scene) (work : Work) (state : State) → AtState z work state → z.names.text.now ≡ z.text
unfolding AtState
at_text z work (Reading s) there = there.before.stored.of_text
at_text z work (Holding s h) there = there.behind.stored.of_text
at_text z work (Giving s h) there = there.behind.stored.of_text

module _ (list text before code : List ℕ) (names : NameTable) (work : Work) (state : State) (there : AtState (scene_of list text names before code) work state) where
  -- so what holds of the text that is read holds of the table's
  same_text : names.text.now ≡ text
  unfolding scene_of
  same_text = at_text (scene_of list text names before code) work state there

  pub own_text : AtState (scene_of list names.text.now names before code) work state
  own_text = subst (λ t. AtState (scene_of list t names before code) work state) (sym same_text) there

  -- and where a turn on that text ends
  pub turned_on : (names' : NameTable) (code' : List ℕ) (work' : Work) (r : Option State)
      → MatchOption r (Refuses (scene_of list names.text.now names' before code'))
      (Turned (scene_of list names.text.now names' before code') work' (left_of names.text.now state))
      → MatchOption r (Refuses (scene_of list text names' before code')) (Turned (scene_of list text names' before code') work' (left_of text state))
  turned_on names' code' work' r =
      subst (λ t. MatchOption r (Refuses (scene_of list t names' before code')) (Turned (scene_of list t names' before code') work' (left_of t state)))
      same_text

-- what was read is read of the same bytes
pub ends_of : (list before code : List ℕ) (names : NameTable) (work : Work) (r : Option TermSize) {s t : List ℕ} → s ≡ t
    → ReadEnds (scene_of list s names before code) work r → ReadEnds (scene_of list t names before code) work r
ends_of list before code names work r e = subst (λ t. ReadEnds (scene_of list t names before code) work r) e

pub begun : (list : List ℕ) (cleared : NameTable) (work : Work) → ReadBegins list work → cleared.count ≡ 0 → (code : List ℕ)
    → AtState (scene_of list cleared.text.now cleared code code) work (Reading (record { at = 0; depth = 0; used = 0; to = 0 }))
unfolding scene_of AtState entries_marks nodes_met code_met labels_met labels_size limited_met names_met added table_names first_names stack_records stack_of store_labels
begun list cleared work b none code = record {
  entries = [];
  before = record {
    reached = reached_first _ _ cleared.table.short b.listed;
    placed = record { within = omega arith; near = omega arith };
    deep = refl;
    stored = record {
      room = b.roomy.0;
      places = b.roomy.1;
      few = omega arith;
      few_entries = omega arith;
      used_is = refl;
      to_is = refl;
      limited = refl;
      of_text = refl;
      names_are = rw none refl;
      lies = λ number e. record { records_are = refl; stack_is = refl; code_is = refl };
    };
  };
}
