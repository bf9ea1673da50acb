-- Behind the head of a let: the body is to be read.
use Prim.Native.Nat.{ℕ, ◌-◌, ◌≤◌}
use mathlib.Core.Path.{◌≡◌, refl}
use mathlib.Core.Bool.{true, false}
use Rattle.std.specs.Prelude.{Option, None, Some, MatchOption}
use mathlib.Core.List.{List, [], ◌∷◌, ◌++◌, append_assoc}
use native.Mathlib.Omega.{arith}
use lib.ListN.{drop}
use lib.Dec.{leb}
use Rattle.definitions.specs.Utf8.{utf8}
use Rattle.definitions.specs.Name.{Name}
use Rattle.definitions.specs.Term.{ProofTerm}
use Rattle.definitions.specs.Display.{within}
use Rattle.definitions.specs.TermReader.{Shown, same, expect}
use Rattle.reading_laws.specs.TermMachine.{Entry, let_head, let_body, reading, and_then, give}
use Rattle.reading_laws.specs.Marks.{called, marks, entry_marks, entries_marks}
use Rattle.words.specs.Places.{Expected}
use Rattle.words.specs.Table.{table_names}
use Rattle.term_stack.specs.declared.Progress.{Progress}
use Rattle.proof_term.specs.declared.forms.Form.TheVariants.{Ascription}
use Rattle.term_stack.specs.declared.Hand.{Hand}
use Rattle.term_stack.specs.declared.Part.{Part}
use Rattle.term_stack.specs.declared.Entry.TheVariants.{LetHead, LetBody}
use Rattle.term_stack.specs.declared.State.{State}
use Rattle.term_stack.specs.declared.Work.{Work}
use Rattle.proof_term.specs.Forms.{rank}
use Rattle.term_stack.specs.Forms.{least_form}
use Rattle.term_stack.specs.Growing.{Entered}
use Rattle.term_stack.specs.Numbers.{records_after, entry_after, entry_records, stack_records}
use Rattle.term_stack.specs.Standing.{Scene, Extends, left_at}
use Rattle.term_stack.specs.Using.{Comes, Refuses, Turned, GivesTo, Gives}
use Rattle.term_stack.proofs.Alike.{StandsFor, for_let, entry_for}
use Rattle.term_stack.proofs.Coming.{goes_on, ends_here, as_due, not_due}
use Rattle.term_stack.proofs.Grown.{due_at}
use Rattle.term_stack.proofs.Opened.{Opens, opens}
use Rattle.term_openings.proofs.ClosedTerms.{further}
use Rattle.term_closings.proofs.Tops.{waiting_is}
use Rattle.term_closings.proofs.Enclosed.{placed_on}

module _ {z : Scene} {work : Work} {s : Progress} {h : Hand} {m n : ℕ} where
  -- brackets that are not due
  pub let_not_due : Gives z work s h (LetHead m n) → same h.own (leb (rank Ascription) (rank h.form)) ≡ false → Refuses z
  unfolding give least_form rank
  let_not_due g d = undue (entry_for g) g.to
    where
      undue : {k : List Entry} {entry : Entry} {a : Shown (ProofTerm Name)} → StandsFor (LetHead m n) entry → GivesTo k entry a z work s h (LetHead m n) → Refuses z
      undue for_let g = not_due _ _ _ g.comes (due_at within g.hand d)

  names_are : {k : List Entry} {x y : Name} {a : Shown (ProofTerm Name)} → GivesTo k (let_head x y) a z work s h (LetHead m n)
      → (number : Name → ℕ) → Extends number (table_names z.names) → (m ≡ number x) × (n ≡ number y)
  unfolding entry_after
  names_are g number i = let top = g.top number i in (cc, cc)

  module _ (due : same h.own (leb (rank Ascription) (rank h.form)) ≡ true) where
    comes_in : {k : List Entry} {x y : Name} {a : Shown (ProofTerm Name)} → GivesTo k (let_head x y) a z work s h (LetHead m n)
        → Comes z.types z.text (and_then (expect (utf8 " in ") (drop s.at z.text)) λ u t. Some (reading (let_body x y a.shown ∷ k) t))
    unfolding give least_form rank
    comes_in g = as_due _ _ _ g.comes (due_at within g.hand due)

    -- no body follows
    pub let_stuck : Gives z work s h (LetHead m n) → expect (utf8 " in ") (drop s.at z.text) ≡ None → Refuses z
    let_stuck g none = no_body (entry_for g) g.to
      where
        no_body : {k : List Entry} {entry : Entry} {a : Shown (ProofTerm Name)} → StandsFor (LetHead m n) entry → GivesTo k entry a z work s h (LetHead m n) → Refuses z
        no_body for_let g = ends_here (expect (utf8 " in ") (drop s.at z.text)) _ (comes_in g) none

    module _ {end : ℕ} (found : Expected (utf8 " in ") z.text s.at end) {w : Part} (is : w ≡ record { root = s.used - 1; nest = h.nest; tally = h.tally }) where
      let_opens : (k : List Entry) (x y : Name) (a : Shown (ProofTerm Name)) → GivesTo k (let_head x y) a z work s h (LetHead m n)
          → Opens k (let_body x y a.shown) z work (further s end s.to) (LetBody m n w)
      unfolding entry_marks entry_records entry_after
      let_opens k x y a g =
          let ms = entries_marks k in
          let v = ms ++ (called x ∷ called y ∷ []) in
          let on = found.after in
          record {
            placed = placed_on g.placed end (omega (arith, on)) found.within;
            deep = g.deep;
            met = v ++ marks a.shown;
            records = λ number. (stack_records number k ++ []) ++ records_after number v a.shown;
            stored = g.stored;
            marks_are = append_assoc ms (called x ∷ called y ∷ []) (marks a.shown);
            records_are = λ number. simp append_assoc;
            entry_is = λ number i. let (first, second) = names_are g number i in rw (first, second, waiting_is v g.hand g.stored.used_is is) refl;
          }

      -- the body is to be read
      pub let_turned : (after : Work) (r : Option State) → Gives z work s h (LetHead m n)
          → MatchOption r (767 ≤ s.depth) (Entered (further s end s.to) (LetBody m n w) work after)
          → MatchOption r (Refuses z) (Turned z after (left_at z.text s 2))
      unfolding left_at
      let_turned after r g enters = go (entry_for g) g.to
        where
          go : {k : List Entry} {entry : Entry} {a : Shown (ProofTerm Name)} → StandsFor (LetHead m n) entry → GivesTo k entry a z work s h (LetHead m n)
              → MatchOption r (Refuses z) (Turned z after (left_at z.text s 2))
          go {k} {a = a} (for_let {x = x} {y = y}) g =
              let on = found.after in
              opens (let_opens k x y a g) (goes_on (expect (utf8 " in ") (drop s.at z.text)) _ tt _ (comes_in g) found.reads) after r enters _ (omega (arith, on, found.within))
