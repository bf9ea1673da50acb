-- An entry is put on the stack: the machine is before a term then, or there is no term within the limits.
use Prim.Native.Nat.{ℕ, ◌<◌, ◌≤◌}
use mathlib.Core.Path.{◌≡◌}
use Rattle.std.specs.Prelude.{Option, None, Some, MatchOption}
use mathlib.Core.List.{List, ◌∷◌, ◌++◌}
use native.Mathlib.Omega.{arith}
use lib.ListN.{length, drop}
use Rattle.definitions.specs.Name.{Name}
use Rattle.reading_laws.specs.TermMachine.{Entry, reading}
use Rattle.reading_laws.specs.Marks.{Mark, entry_marks, entries_marks}
use Rattle.reading_laws.proofs.Entries.{entries}
use Rattle.reading_laws.proofs.OnTheWay.{Fits}
use Rattle.reading_laws.proofs.Turns.{Next}
use Rattle.words.specs.Table.{table_names}
use Rattle.term_stack.specs.declared.Progress.{Progress}
use Rattle.term_stack.specs.declared.Entry as reader
use Rattle.term_stack.specs.declared.State.{State}
use Rattle.term_stack.specs.declared.Work.{Work}
use Rattle.term_stack.specs.Growing.{Entered}
use Rattle.term_stack.specs.Numbers.{entry_after, entry_records, stack_of, stack_records}
use Rattle.term_stack.specs.Standing.{Scene, Extends, Stored, Placed, AtState, left_at, left_of}
use Rattle.term_stack.specs.Using.{Comes, Refuses, Turned}
use Rattle.term_stack.proofs.Stores.{stored_entry, stored_as}
use Rattle.term_stack.proofs.Coming.{arrives, unfit}

-- an entry is to be put on top of entries k
pub record Opens (k : List Entry) (entry : Entry) (z : Scene) (work : Work) (s : Progress) (e : reader.Entry) : Type 0 where
  pub placed : Placed z s
  pub deep : s.depth ≡ length k
  pub met : List Mark
  pub records : (Name → ℕ) → List ℕ
  pub stored : Stored met records (λ number. stack_of number k) z work s.used s.depth s.to
  pub marks_are : met ≡ entries_marks k ++ entry_marks entry
  pub records_are : (number : Name → ℕ) → records number ≡ stack_records number k ++ entry_records number (entries_marks k) entry
  pub entry_is : (number : Name → ℕ) → Extends number (table_names z.names) → e ≡ entry_after number (entries_marks k) entry

module _ {k : List Entry} {entry : Entry} {z : Scene} {work : Work} {s : Progress} {e : reader.Entry} (o : Opens k entry z work s e)
    (comes : Comes z.types z.text (Some (reading (entry ∷ k) (drop s.at z.text)))) where
  too_deep : {rest : List ℕ} → 767 ≤ s.depth → Fits (reading (entry ∷ k) rest) → ⊥
  unfolding entries
  too_deep h f = let w = f.few_entries in let d = o.deep in omega (arith, w, d, h)

  pub not_opened : 767 ≤ s.depth → Refuses z
  unfolding Next
  not_opened h = unfit comes (too_deep h)

  pub opened : {after : Work} {r : State} → Entered s e work after r → (left : ℕ) → left_at z.text s 2 < left → Turned z after left r
  unfolding entries_marks stack_of stack_records AtState left_of left_at
  opened m left less =
      let p = o.placed in
      let d = o.deep in
      rw (m.is, m.stored) (record {
        there = record {
          entries = entry ∷ k;
          before = record {
            reached = arrives comes;
            placed = record { within = p.within; near = p.near };
            deep = omega (arith, d);
            stored = stored_entry (λ number. entry_after number (entries_marks k) entry) e (stored_as o.stored o.marks_are o.records_are) m.few o.entry_is;
          };
        };
        less = omega (arith, less);
      })

  -- the entry is put on the stack, or there is no term
  pub opens : (after : Work) (r : Option State) → MatchOption r (767 ≤ s.depth) (Entered s e work after) → (left : ℕ) → left_at z.text s 2 < left
      → MatchOption r (Refuses z) (Turned z after left)
  opens after None full left less = not_opened full
  opens after (Some r) m left less = opened m left less
