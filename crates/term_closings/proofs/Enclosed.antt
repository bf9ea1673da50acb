-- Behind the first term after a bracket: a comma, and the second part of a pair is to be read, or the bracket closes.
use Prim.Native.Nat.{ℕ, ◌-◌, ◌≤◌}
use mathlib.Core.Path.{◌≡◌, refl, sym, ◌∙◌}
use mathlib.Core.Bool.{Bool, true, false}
use Rattle.std.specs.Prelude.{Option, None, Some, MatchOption}
use mathlib.Core.List.{List, ◌∷◌, ◌++◌, append_assoc}
use native.Mathlib.Omega.{arith}
use lib.ListN.{length, drop}
use Rattle.definitions.specs.Utf8.{utf8}
use Rattle.definitions.specs.Name.{Name}
use Rattle.definitions.specs.Term.{ProofTerm}
use Rattle.definitions.specs.TermReader.{Shown, standing, same, expect, if_read}
use Rattle.reading_laws.specs.TermMachine.{Purpose, Entry, in_bracket, second, State, reading, and_then, used, give}
use Rattle.reading_laws.specs.Marks.{marks, purpose_marks, entry_marks, entries_marks}
use Rattle.words.specs.Places.{Expected}
use Rattle.words.specs.Names.{number_in}
use Rattle.words.specs.Table.{table_names}
use Rattle.term_stack.specs.declared.Progress.{Progress}
use Rattle.term_stack.specs.declared.Hand.{Hand}
use Rattle.term_stack.specs.declared.Part.{Part}
use Rattle.term_stack.specs.declared.Purpose as reader
use Rattle.term_stack.specs.declared.Entry.TheVariants.{Bracket, Second}
use Rattle.term_stack.specs.declared.State as reader_state
use Rattle.term_stack.specs.declared.Work.{Work}
use Rattle.term_stack.specs.Growing.{Entered}
use Rattle.term_stack.specs.Numbers.{purpose_after, records_after, entry_after, entry_records, purpose_records, stack_records}
use Rattle.term_stack.specs.Standing.{Scene, Placed, left_at}
use Rattle.term_stack.specs.Using.{Comes, Refuses, Turned, Using, GivesTo, Gives}
use Rattle.term_stack.proofs.Alike.{StandsFor, for_bracket, entry_for}
use Rattle.term_stack.proofs.Marked.{extends_itself}
use Rattle.term_stack.proofs.Stores.{stored_as}
use Rattle.term_stack.proofs.Coming.{goes_on, ends_here, reads_on, reads_else, as_due, not_due}
use Rattle.term_stack.proofs.Opened.{Opens, opens}
use Rattle.term_openings.proofs.ClosedTerms.{further}
use Rattle.term_closings.proofs.Tops.{waiting_is}

pub placed_on : {z : Scene} {s : Progress} → Placed z s → (at : ℕ) → s.at ≤ at → at ≤ length z.text → Placed z (further s at s.to)
placed_on p at from within = record { within = within; near = let n = p.near in omega (arith, n, from) }

-- Brackets of its own are due nowhere in brackets.
pub own_due : (own : Bool) → own ≡ true → same own false ≡ false
unfolding same
own_due own e = rw e refl

pub bare_due : (own : Bool) → own ≡ false → same own false ≡ true
unfolding same
bare_due own e = rw e refl

-- where the machine turns to behind the first term after a bracket
abbrev after_first : List Entry → Purpose → ProofTerm Name → List ℕ → Option State
after_first k p a s =
    if_read (expect (utf8 ", ") s) (λ u t. Some (reading (second p a ∷ k) t))
    (and_then (expect (utf8 ")") s) λ u t. used k p (standing true a) t)

module _ {z : Scene} {work : Work} {s : Progress} {h : Hand} {q : reader.Purpose} where
  -- a term in brackets of its own
  pub bracket_refused : Gives z work s h (Bracket q) → h.own ≡ true → Refuses z
  unfolding give
  bracket_refused g own = in_own (entry_for g) g.to
    where
      in_own : {k : List Entry} {entry : Entry} {a : Shown (ProofTerm Name)} → StandsFor (Bracket q) entry → GivesTo k entry a z work s h (Bracket q) → Refuses z
      in_own {a = a} for_bracket g = not_due _ _ _ g.comes (own_due a.own (sym g.hand.own ∙ own))

  purpose_is : {k : List Entry} {p : Purpose} {a : Shown (ProofTerm Name)} → GivesTo k (in_bracket p) a z work s h (Bracket q) → q ≡ purpose_after (entries_marks k) p
  unfolding entry_after
  purpose_is g = let seen = table_names z.names in let top = g.top (number_in seen) (extends_itself seen) in cc

  module _ (bare : h.own ≡ false) where
    comes_bare : {k : List Entry} {p : Purpose} {a : Shown (ProofTerm Name)} → GivesTo k (in_bracket p) a z work s h (Bracket q)
        → Comes z.types z.text (after_first k p a.shown (drop s.at z.text))
    unfolding give
    comes_bare {a = a} g = as_due a.own false _ g.comes (bare_due a.own (sym g.hand.own ∙ bare))

    -- a comma follows
    module _ {comma : ℕ} (found : Expected (utf8 ", ") z.text s.at comma) {w : Part} (is : w ≡ record { root = s.used - 1; nest = h.nest; tally = h.tally }) where
      pair_opens : (k : List Entry) (p : Purpose) (a : Shown (ProofTerm Name)) → GivesTo k (in_bracket p) a z work s h (Bracket q)
          → Opens k (second p a.shown) z work (further s comma s.to) (Second q w)
      unfolding entry_marks entry_records entry_after
      pair_opens k p a g =
          let ms = entries_marks k in
          let on = found.after in
          record {
            placed = placed_on g.placed comma (omega (arith, on)) found.within;
            deep = g.deep;
            met = (ms ++ purpose_marks p) ++ marks a.shown;
            records = λ number. (stack_records number k ++ purpose_records number ms p) ++ records_after number (ms ++ purpose_marks p) a.shown;
            stored = g.stored;
            marks_are = append_assoc ms (purpose_marks p) (marks a.shown);
            records_are = λ number. append_assoc (stack_records number k) (purpose_records number ms p) (records_after number (ms ++ purpose_marks p) a.shown);
            entry_is = λ number i. rw (purpose_is g, waiting_is (ms ++ purpose_marks p) g.hand g.stored.used_is is) refl;
          }

      pub bracket_opens : (after : Work) (r : Option reader_state.State) → Gives z work s h (Bracket q)
          → MatchOption r (767 ≤ s.depth) (Entered (further s comma s.to) (Second q w) work after)
          → MatchOption r (Refuses z) (Turned z after (left_at z.text s 2))
      unfolding left_at
      bracket_opens after r g enters = go (entry_for g) g.to
        where
          go : {k : List Entry} {entry : Entry} {a : Shown (ProofTerm Name)} → StandsFor (Bracket q) entry → GivesTo k entry a z work s h (Bracket q)
              → MatchOption r (Refuses z) (Turned z after (left_at z.text s 2))
          go {k} {a = a} (for_bracket {p = p}) g =
              let on = found.after in
              opens (pair_opens k p a g) (reads_on (expect (utf8 ", ") (drop s.at z.text)) _ _ tt _ (comes_bare g) found.reads) after r enters _ (omega (arith, on, found.within))

    module _ (no_comma : expect (utf8 ", ") (drop s.at z.text) ≡ None) where
      comes_closing : {k : List Entry} {p : Purpose} {a : Shown (ProofTerm Name)} → GivesTo k (in_bracket p) a z work s h (Bracket q)
          → Comes z.types z.text (and_then (expect (utf8 ")") (drop s.at z.text)) λ u t. used k p (standing true a.shown) t)
      comes_closing g = reads_else (expect (utf8 ", ") (drop s.at z.text)) _ _ (comes_bare g) no_comma

      -- neither a comma nor a bracket follows
      pub bracket_stuck : Gives z work s h (Bracket q) → expect (utf8 ")") (drop s.at z.text) ≡ None → Refuses z
      bracket_stuck g none = neither (entry_for g) g.to
        where
          neither : {k : List Entry} {entry : Entry} {a : Shown (ProofTerm Name)} → StandsFor (Bracket q) entry → GivesTo k entry a z work s h (Bracket q) → Refuses z
          neither for_bracket g = ends_here (expect (utf8 ")") (drop s.at z.text)) _ (comes_closing g) none

      -- the bracket closes
      pub bracket_using : {end : ℕ} → Gives z work s h (Bracket q) → Expected (utf8 ")") z.text s.at end
          → Using z work (further s end s.to) (record h { own = true }) q
      unfolding entry_marks entry_records standing
      bracket_using {end} g found = closed (entry_for g) g.to
        where
          closed : {k : List Entry} {entry : Entry} {a : Shown (ProofTerm Name)} → StandsFor (Bracket q) entry → GivesTo k entry a z work s h (Bracket q)
              → Using z work (further s end s.to) (record h { own = true }) q
          closed {k} {a = a} (for_bracket {p = p}) g =
              let ms = entries_marks k in
              let on = found.after in
              let hand = g.hand in
              record {
                entries = k;
                purpose = p;
                term = standing true a.shown;
                for = record {
                  comes = goes_on (expect (utf8 ")") (drop s.at z.text)) _ tt _ (comes_closing g) found.reads;
                  placed = placed_on g.placed end (omega (arith, on)) found.within;
                  deep = g.deep;
                  hand = record { form_is = hand.form_is; own = refl; nest = hand.nest; tally = hand.tally; shallow = hand.shallow };
                  purpose_is = purpose_is g;
                  stored = stored_as g.stored (append_assoc ms (purpose_marks p) (marks a.shown))
                      (λ number. append_assoc (stack_records number k) (purpose_records number ms p) (records_after number (ms ++ purpose_marks p) a.shown));
                };
              }
