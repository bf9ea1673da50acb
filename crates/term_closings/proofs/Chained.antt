-- Behind a term to which more may belong: an argument, or nothing more.
use Prim.Native.Nat.{ℕ, ◌-◌}
use mathlib.Core.Path.{◌≡◌, ap}
use mathlib.Core.Bool.{true, false}
use Rattle.std.specs.Prelude.{None}
use native.Mathlib.Omega.{arith}
use lib.ListN.{drop}
use lib.Dec.{leb}
use Rattle.definitions.specs.declared.Style.TheVariants.{Strict}
use Rattle.definitions.specs.Utf8.{utf8}
use Rattle.definitions.specs.Display.{function_of, wraps}
use Rattle.definitions.specs.TermReader.{same, expect, argument_follows}
use Rattle.reading_laws.specs.TermMachine.{as_argument, holding, and_then, if_due, closed_for, chain}
use Rattle.reading_laws.specs.Marks.{purpose_marks, entries_marks}
use Rattle.words.specs.Places.{Expected}
use Rattle.term_stack.specs.declared.Progress.{Progress}
use Rattle.proof_term.specs.declared.forms.Form.TheVariants.{Function}
use Rattle.term_stack.specs.declared.Hand.{Hand}
use Rattle.term_stack.specs.declared.Part.{Part}
use Rattle.term_stack.specs.declared.Purpose.TheVariants.{Argument}
use Rattle.term_stack.specs.declared.State.TheVariants.{Giving}
use Rattle.term_stack.specs.declared.Work.{Work}
use Rattle.proof_term.specs.Forms.{rank}
use Rattle.term_stack.specs.Forms.{least_form}
use Rattle.term_stack.specs.Numbers.{purpose_after, purpose_records, term_records}
use Rattle.term_stack.specs.Standing.{Scene, AtTerm, AtState, left_at, left_of}
use Rattle.term_stack.specs.Using.{Comes, Refuses, Turned}
use Rattle.term_stack.proofs.Coming.{comes_as, arrives, goes_on, ends_here, reads_else, as_due, not_due}
use Rattle.term_stack.proofs.Grown.{due_at}
use Rattle.term_openings.specs.Beginning.{Closed}
use Rattle.term_openings.proofs.ClosedTerms.{further}
use Rattle.term_closings.proofs.Tops.{waiting_is}
use Rattle.term_closings.proofs.Ascribed.{comes_chain, comes_last}

module _ {z : Scene} {work : Work} {s : Progress} {h : Hand} (held : AtTerm holding h z work s) where
  -- An argument.
  module _ (follows : argument_follows (drop s.at z.text) ≡ true) where
    comes_argument : Comes z.types z.text
        (if_due held.term.own (wraps Strict function_of held.term.shown)
        (and_then (expect (utf8 " ") (drop s.at z.text)) λ u t. closed_for held.entries (as_argument held.term.shown) t))
    unfolding chain
    comes_argument = comes_as (comes_chain held) (rw follows)

    -- brackets that are not due
    pub argument_not_due : same h.own (leb (rank Function) (rank h.form)) ≡ false → Refuses z
    unfolding least_form rank
    argument_not_due d = not_due _ _ _ comes_argument (due_at function_of held.behind.hand d)

    module _ (due : same h.own (leb (rank Function) (rank h.form)) ≡ true) where
      comes_due : Comes z.types z.text (and_then (expect (utf8 " ") (drop s.at z.text)) λ u t. closed_for held.entries (as_argument held.term.shown) t)
      unfolding least_form rank
      comes_due = as_due _ _ _ comes_argument (due_at function_of held.behind.hand due)

      pub no_blank : expect (utf8 " ") (drop s.at z.text) ≡ None → Refuses z
      no_blank none = ends_here (expect (utf8 " ") (drop s.at z.text)) _ comes_due none

      -- a closed term is to be read
      pub argument_closed : {start : ℕ} {w : Part} → Expected (utf8 " ") z.text s.at start → w ≡ record { root = s.used - 1; nest = h.nest; tally = h.tally }
          → Closed z work (further s start s.to) (Argument w)
      unfolding purpose_marks purpose_records purpose_after term_records
      argument_closed {start} blank is =
          let b = held.behind in
          let on = blank.after in
          let near = b.placed.near in
          record {
            entries = held.entries;
            purpose = as_argument held.term.shown;
            for = record {
              comes = goes_on (expect (utf8 " ") (drop s.at z.text)) _ tt _ comes_due blank.reads;
              placed = record { within = blank.within; near = omega (arith, near, on) };
              deep = b.deep;
              purpose_is = ap Argument (waiting_is (entries_marks held.entries) b.hand b.stored.used_is is);
              stored = b.stored;
            };
          }

  -- Neither an argument nor a label.
  pub whole_term : argument_follows (drop s.at z.text) ≡ false → expect (utf8 ": ") (drop s.at z.text) ≡ None
      → Turned z work (left_at z.text s 1) (Giving s h)
  unfolding AtState left_of left_at
  whole_term bare none =
      let b = held.behind in
      record {
        there = record {
          entries = held.entries;
          term = held.term;
          behind = record {
            reached = arrives (reads_else (expect (utf8 ": ") (drop s.at z.text)) _ _ (comes_last held bare) none);
            placed = b.placed;
            deep = b.deep;
            hand = b.hand;
            stored = b.stored;
          };
        };
        less = omega arith;
      }
