-- The entry on top is taken off the stack, and the term in hand is given to it; a term that waits is kept by its record, nesting and labels.
use Prim.Native.Nat.{ℕ, ◌+◌, ◌-◌, ◌<◌}
use mathlib.Core.Path.{◌≡◌, refl, ◌∙◌}
use mathlib.Core.List.{List, [], ◌∷◌, ◌++◌}
use native.Mathlib.Omega.{arith}
use lib.ListN.{length, get_or, length-append}
use Rattle.definitions.specs.Name.{Name}
use Rattle.definitions.specs.Term.{ProofTerm}
use Rattle.definitions.specs.TermReader.{Shown}
use Rattle.reading_laws.specs.TermMachine.{Entry, giving, turn}
use Rattle.reading_laws.specs.Marks.{Mark, marks, entries_marks, nodes_met}
use Rattle.term_stack.specs.declared.Progress.{Progress}
use Rattle.term_stack.specs.declared.Hand.{Hand}
use Rattle.term_stack.specs.declared.Part.{Part}
use Rattle.term_stack.specs.declared.Entry as stacked
use Rattle.term_stack.specs.declared.Work.{Work}
use Rattle.term_stack.specs.Numbers.{part_after, root_after, entry_after, stack_of, stack_records, term_records}
use Rattle.term_stack.specs.Standing.{Scene, HandOf, Behind, AtTerm}
use Rattle.term_stack.specs.Using.{GivesTo, Gives}
use Rattle.term_stack.proofs.Stores.{stored_below, top_is}

stack_long : (number : Name → ℕ) (k : List Entry) → length (stack_of number k) ≡ length k
unfolding stack_of
stack_long number [] = refl
stack_long number (e ∷ k) =
    let all = length-append (stack_of number k) (entry_after number (entries_marks k) e ∷ []) in
    let below = stack_long number k in
    omega (arith, all, below)

module _ {z : Scene} {work : Work} {s : Progress} {h : Hand} where
  taken : (d : stacked.Entry) (k : List Entry) (entry : Entry) {a : Shown (ProofTerm Name)} → Behind giving (entry ∷ k) a h z work s
      → GivesTo k entry a z work (record s { depth = s.depth - 1 }) h (get_or work.entries (s.depth - 1) d)
  unfolding turn entries_marks stack_of term_records stack_records
  taken d k entry b =
      let deep = b.deep in
      let long : (number : Name → ℕ) → length (stack_of number k) ≡ s.depth - 1 = λ number. let l = stack_long number k in omega (arith, l, deep) in
      let some : s.depth ≡ s.depth - 1 + 1 = omega (arith, deep) in
      record {
        comes = record { from = _; reached = b.reached; turns = refl };
        placed = record { within = b.placed.within; near = b.placed.near };
        deep = omega (arith, deep);
        hand = b.hand;
        stored = stored_below (λ number. stack_of number k) (λ number. entry_after number (entries_marks k) entry) b.stored long some;
        top = λ number e. top_is (λ number. stack_of number k) (λ number. entry_after number (entries_marks k) entry) b.stored long some d number e;
      }

  at_top : {e : stacked.Entry} (d : stacked.Entry) (k : List Entry) (a : Shown (ProofTerm Name)) → Behind giving k a h z work s → 0 < s.depth → get_or work.entries (s.depth - 1) d ≡ e
      → Gives z work (record s { depth = s.depth - 1 }) h e
  at_top d [] a b some is = let deep = b.deep in absurd (omega (arith, deep))
  at_top d (entry ∷ k) a b some is =
      let g : Gives z work (record s { depth = s.depth - 1 }) h (get_or work.entries (s.depth - 1) d) = record { below = k; entry = entry; term = a; to = taken d k entry b } in
      rw is at g

  -- an entry waits for the term in hand
  pub gives_top : {e : stacked.Entry} (d : stacked.Entry) → AtTerm giving h z work s → 0 < s.depth → get_or work.entries (s.depth - 1) d ≡ e
      → Gives z work (record s { depth = s.depth - 1 }) h e
  gives_top d at some is = at_top d at.entries at.term at.behind some is

-- the term in hand, as one that waits, is that term
pub waiting_is : (v : List Mark) {a : Shown (ProofTerm Name)} {used : ℕ} {h : Hand} {w : Part} → HandOf a h → used ≡ nodes_met (v ++ marks a.shown)
    → w ≡ record { root = used - 1; nest = h.nest; tally = h.tally } → w ≡ part_after v a.shown
unfolding part_after root_after
waiting_is v of met is = is ∙ rw (met, of.nest, of.tally) refl
