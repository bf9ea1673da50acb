-- Where the turns have ended: text that is left and brackets around the whole are no term's, and else the term in hand stands in memory.
use Prim.Native.Nat.{ℕ, ◌*◌, ◌≤◌}
use mathlib.Core.Path.{◌≡◌, refl, sym, ap, ◌∙◌}
use mathlib.Core.Bool.{false, true≢false}
use mathlib.Core.List.{List, [], ◌∷◌, reverse}
use native.Mathlib.Omega.{arith}
use lib.Dec.{ltb}
use borrow.Author.Tests.{ltb-false}
use lib.ListN.{length, get_or, take, drop, length-drop, drop_of_length-le}
use Rattle.std.specs.Prelude.{Option, None, Some, MatchOption}
use Rattle.definitions.specs.Outcome.{accepted}
use Rattle.definitions.specs.Name.{Name}
use Rattle.definitions.specs.Sheet.{name_limit}
use Rattle.definitions.specs.Term.{ProofTerm}
use Rattle.definitions.specs.TermText.{nodes, term_names, node_limit, term_nesting_limit}
use Rattle.definitions.specs.TermReader.{Shown, read_answer}
use Rattle.definitions.specs.TermMemory.{different_names, place, store_labels}
use Rattle.reading_laws.specs.TermMachine.{Entry, giving}
use Rattle.reading_laws.specs.Marks.{entries_marks, met}
use Rattle.reading_laws.proofs.Entries.{entries, hand_nesting}
use Rattle.reading_laws.proofs.OnTheWay as way
use Rattle.reading_laws.proofs.OnTheWay.{Fits, nodes_met_lem, names_met_lem, rest_refused, own_refused, last_accepted}
use Rattle.words.specs.Names.{added}
use Rattle.words.specs.Table.{table_names}
use Rattle.words.proofs.Added.{added_firsts}
use Rattle.words.proofs.Numbers.{names_length}
use Rattle.term_stack.specs.declared.Progress.{Progress}
use Rattle.term_stack.specs.declared.Hand.{Hand}
use Rattle.term_stack.specs.declared.State.{State}
use Rattle.term_stack.specs.declared.State.TheVariants.{Reading, Holding, Giving}
use Rattle.term_stack.specs.declared.Work.{Work}
use Rattle.term_stack.specs.Numbers.{stack_records, term_records}
use Rattle.term_stack.specs.Standing.{Scene, Extends, Behind, AtState}
use Rattle.term_stack.specs.Using.{Refuses}
use Rattle.term_reader.specs.declared.TermSize.{TermSize}
use Rattle.term_reader.specs.Between.{goes_on}
use Rattle.term_reader.specs.Whole.{Unsettled, unread, unfinished, more, bracketed, Settled, settled, size_of, WholeTerm, Read, ReadEnds}
use Rattle.term_reader.proofs.TermRecords.{labels_met_lem, code_met_lem, all_records}
use Rattle.term_reader.proofs.NameNumbers.{different_in_order, places_extend, marked_in_order}

-- What was met of a whole term is in memory.
module _ {term : Shown (ProofTerm Name)} {z : Scene} {work : Work} {s : Progress} {h : Hand} (b : Behind giving [] term h z work s) where
  abbrev t : ProofTerm Name
  t = term.shown

  names_are : table_names z.names ≡ added [] (term_names t)
  unfolding entries_marks
  names_are = b.stored.names_are ∙ ap (added []) (names_met_lem t)

  count_is : z.names.count ≡ length (different_names t)
  unfolding different_names
  count_is = sym (names_length z.names) ∙ (ap length names_are ∙ added_firsts (term_names t))

  extends : Extends (place (different_names t)) (table_names z.names)
  unfolding different_names
  extends = rw names_are (places_extend (term_names t))

  used_is : s.used ≡ nodes t
  unfolding entries_marks
  used_is = b.stored.used_is ∙ nodes_met_lem t

  in_order : reverse (table_names z.names) ≡ different_names t
  unfolding different_names
  in_order = ap reverse names_are ∙ different_in_order (term_names t)

  sizes : record { nodes = s.used; names = z.names.count; code = s.to; labels = h.tally } ≡ size_of t
  unfolding entries_marks size_of
  sizes = rw (used_is, count_is, b.stored.to_is, code_met_lem t, b.hand.tally) refl

  fits : Fits (giving [] term [])
  unfolding entries hand_nesting met entries_marks way.different_names different_names node_limit term_nesting_limit name_limit
  fits = record {
    few_entries = omega arith;
    shallow = let n = b.hand.nest in let h = b.hand.shallow in omega (arith, n, h);
    few_nodes = let u = b.stored.used_is in let h = b.stored.few in omega (arith, u, h);
    few_names = let c = count_is in let h = z.names.table.few in rw (names_met_lem t) (omega (arith, c, h));
    small_labels = b.stored.limited;
  }

  module _ (ends : length z.text ≤ s.at) (bare : h.own ≡ false) where
    answer : read_answer z.types z.text ≡ accepted t
    answer =
        let reached = b.reached in
        last_accepted z.types z.text term (rw (drop_of_length-le z.text ends) at reached) (sym b.hand.own ∙ bare) fits

    whole : WholeTerm t z work
    unfolding entries_marks term_records stack_records table_names
    whole =
        let lies = b.stored.lies (place (different_names t)) extends in
        record {
          answer = answer;
          roomy = (b.stored.room, b.stored.places);
          few = let h = b.stored.few in omega (arith, used_is, h);
          of_text = b.stored.of_text;
          count_is = count_is;
          records_are = ap (λ n. take (7 * n) work.records) (sym used_is) ∙ (lies.records_are ∙ all_records (place (different_names t)) t);
          marks = λ i h.
              rw b.stored.of_text at
              (sym (marked_in_order z.names.pairs z.names.text.now z.names.count i (omega (arith, count_is, h)))
              ∙ ap (λ l. get_or l i []) in_order);
          code_is = lies.code_is ∙ ap (λ ls. store_labels (place (different_names t)) 0 ls z.before) (labels_met_lem t);
        }

-- nothing waits for the term
unwaited : {entries : List Entry} {term : Shown (ProofTerm Name)} {z : Scene} {work : Work} {s : Progress} {h : Hand}
    → Behind giving entries term h z work s → ltb 0 s.depth ≡ false → Behind giving [] term h z work s
unwaited {entries = []} b e = b
unwaited {entries = e' ∷ k} {s = s} b e = absurd (let d = b.deep in let none = ltb-false 0 s.depth e in omega (arith, d, none))

-- a state that gives no term is not settled
pub no_giving : (length : ℕ) (state : State) → ((s : Progress) (h : Hand) → state ≡ Giving s h → ⊥) → Unsettled length state
no_giving length (Reading s) other = unread
no_giving length (Holding s h) other = unfinished
no_giving length (Giving s h) other = absurd (other s h refl)

module _ (z : Scene) (work : Work) where
  -- the term in hand is no term of the text
  no_term : (state : State) → AtState z work state → goes_on state ≡ false → Unsettled (length z.text) state → Refuses z
  unfolding AtState goes_on
  no_term (Reading s) there over why = absurd (true≢false over)
  no_term (Holding s h) there over why = absurd (true≢false over)
  no_term (Giving s h) there over (more less) =
      let b = unwaited there.behind over in
      let d = length-drop s.at z.text in
      rest_refused z.types z.text there.term (drop s.at z.text) b.reached (omega (arith, d, less))
  no_term (Giving s h) there over (bracketed own) =
      let b = unwaited there.behind over in
      own_refused z.types z.text there.term (drop s.at z.text) b.reached (sym b.hand.own ∙ own)

  given_term : (state : State) (size : TermSize) → AtState z work state → goes_on state ≡ false → Settled (length z.text) z.names.count state size → Read z work size
  unfolding AtState goes_on
  given_term (Reading s) size there over is = elim is [ ]
  given_term (Holding s h) size there over is = elim is [ ]
  given_term (Giving s h) size there over (settled ends bare) =
      let b = unwaited there.behind over in
      record { term = there.term.shown; whole = whole b ends bare; size_is = sizes b }

  pub ended : (state : State) → AtState z work state → goes_on state ≡ false → (r : Option TermSize)
      → MatchOption r (Unsettled (length z.text) state) (Settled (length z.text) z.names.count state) → ReadEnds z work r
  ended state there over None why = no_term state there over why
  ended state there over (Some size) is = given_term state size there over is
