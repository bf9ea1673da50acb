-- A closed term where it begins: a name, sorry and unit are leaves, and any other bracket opens an entry.
use Prim.Native.Nat.{ℕ, ◌<◌, ◌≤◌}
use mathlib.Core.Path.{◌≡◌, refl, sym, ap, ◌∙◌}
use mathlib.Core.Bool.{true, false}
use Rattle.std.specs.Prelude.{Option, None, Some, MatchOption}
use mathlib.Core.List.{List, [], ◌∷◌, ◌++◌, append_assoc, append-nil}
use native.Mathlib.Omega.{arith}
use lib.ListN.{length, drop}
use Rattle.definitions.specs.Utf8.{utf8}
use Rattle.definitions.specs.Name.{Name, eq_name}
use Rattle.definitions.specs.Text.{occurs}
use Rattle.definitions.specs.Display.{closed, form}
use Rattle.definitions.specs.Term.{ProofTerm, Ident, Unit, Sorry, annotation_count}
use Rattle.definitions.specs.TermText.{term_nesting}
use Rattle.definitions.specs.TermReader.{standing, word, name, expect, if_read, start_of, is_sorry}
use Rattle.definitions.specs.TermMemory.{seven}
use Rattle.reading_laws.specs.TermMachine as machine
use Rattle.reading_laws.specs.TermMachine.{Entry, in_bracket, State, reading, and_then, used, closed_for}
use Rattle.reading_laws.specs.Marks.{Mark, called, node, marks, purpose_marks, entry_marks, entries_marks, names_met}
use Rattle.reading_laws.proofs.MarksMet.{begins_by, begins_all, after_used}
use Rattle.words.specs.declared.name_table.NameTable.{NameTable}
use Rattle.words.specs.Places.{between, WordEnds, NameEnds, Expected}
use Rattle.words.specs.Names.{add_name, added, number_in, NamePlace}
use Rattle.words.specs.Table.{table_names, TooMany, NumberOf}
use Rattle.words.proofs.Added.{met_added}
use Rattle.words.proofs.Words.{between_length, sorry_start, other_start}
use Rattle.words.specs.Starts.{as_start}
use Rattle.words.specs.declared.Start.TheVariants as start
use Rattle.atom_reader.proofs.Scopes.{added_one_meets}
use Rattle.atom_reader.proofs.Atoms.{number_later}
use Rattle.term_stack.specs.declared.Work.{Work}
use Rattle.proof_term.specs.declared.nodes.Node.{Node}
use Rattle.proof_term.specs.declared.nodes.Node.TheVariants as made
use Rattle.term_stack.specs.declared.Progress.{Progress}
use Rattle.term_stack.specs.declared.Purpose.{Purpose}
use Rattle.term_stack.specs.declared.Entry.TheVariants.{Bracket}
use Rattle.term_stack.specs.declared.State as reader_state
use Rattle.term_stack.specs.Growing.{node_row}
use Rattle.term_stack.specs.Numbers.{records_after, entry_after, entry_records, purpose_records, stack_records}
use Rattle.term_stack.specs.Standing.{Scene, Extends, Placed, left_at}
use Rattle.term_stack.specs.Using.{Comes, Refuses, Turned, left_after, Leaf}
use Rattle.term_stack.proofs.Coming.{comes_as, unfit, goes_on, ends_here, reads_on, reads_else}
use Rattle.term_stack.proofs.Opened.{Opens}
use Rattle.term_stack.proofs.Stores.{stored_as}
use Rattle.term_openings.specs.Beginning.{Closed, Wordless}
use Rattle.term_openings.proofs.Noting.{noting, stored_name, crowded_met, many_names}

-- the same, further on in the text and the labels' code
abbrev pub further : Progress → ℕ → ℕ → Progress
further s at to = record s { at = at; to = to }

-- what is nearer to the end than this is nearer than what lies before it
pub turned_within : {z : Scene} {work : Work} {left more : ℕ} {r : reader_state.State} → Turned z work left r → left ≤ more → Turned z work more r
turned_within t h = record { there = t.there; less = let less = t.less in omega (arith, less, h) }

pub ends_within : (z : Scene) (work : Work) (left more : ℕ) (r : Option reader_state.State) → MatchOption r (Refuses z) (Turned z work left) → left ≤ more
    → MatchOption r (Refuses z) (Turned z work more)
ends_within z work left more None there h = there
ends_within z work left more (Some r) t h = turned_within t h

-- and what is read behind this place is nearer than this place
pub ends_behind : (z : Scene) (work : Work) (s behind : Progress) (r : Option reader_state.State) → MatchOption r (Refuses z) (Turned z work (left_after z behind))
    → s.at < behind.at → behind.at ≤ length z.text → behind.depth ≡ s.depth → MatchOption r (Refuses z) (Turned z work (left_at z.text s 0))
unfolding left_after left_at
ends_behind z work s behind r t less within deep = ends_within z work _ _ r t (omega arith)

-- whether the word is sorry
module _ {text : List ℕ} {at end : ℕ} (ends : WordEnds text at end) where
  pub is_sorry_lem : start.Sorry ≡ as_start (start_of (between at end text)) → is_sorry (start_of (word (drop at text)).value) ≡ true
  is_sorry_lem e = rw ends.is (sorry_start _ (sym e))

  -- no bytes are no word
  sorry_some : (w : Name) → start.Sorry ≡ as_start (start_of w) → 0 < length w
  unfolding as_start start_of eq_name
  sorry_some [] e = cc
  sorry_some (b ∷ w) e = omega arith

  pub sorry_long : start.Sorry ≡ as_start (start_of (between at end text)) → at < end
  sorry_long e = omega (arith, sorry_some _ e, between_length text at end ends.from ends.within)

  pub wordless : name (drop at text) ≡ None → (as_start (start_of (between at end text)) ≡ start.Sorry → ⊥) → Wordless text at
  wordless no_name e = record { no_name = no_name; no_sorry = rw ends.is (other_start _ e) }

-- what the machine does behind a bracket that opens
unfoldable opening : List Entry → machine.Purpose → Prim.Unit {0} → List ℕ → Option State
opening k p u t = if_read (expect (utf8 ")") t) (λ u v. used k p (standing false Unit) v) (Some (reading (in_bracket p ∷ k) t))

-- the number of a name that was noted, and then others
pub number_noted : (x : Name) (seen others now : List Name) (number : Name → ℕ) {n : ℕ} → now ≡ added (added seen (x ∷ [])) others
    → n ≡ number_in (add_name seen x) x → Extends number now → n ≡ number x
number_noted x seen others now number names is e =
    let there : occurs eq_name x now ≡ true = rw names (met_added x (added seen (x ∷ [])) others (added_one_meets seen x)).0 in
    number_later x seen others is ∙ sym (e x there ∙ ap (λ l. number_in l x) names)

module _ {z : Scene} {work : Work} {s : Progress} {q : Purpose} (c : Closed z work s q) where
  abbrev before : List Mark
  before = entries_marks c.entries ++ purpose_marks c.purpose

  placed_at : (end : ℕ) → s.at ≤ end → end ≤ length z.text → Placed z (further s end s.to)
  placed_at end from within = record { within = within; near = let n = c.for.placed.near in omega (arith, n, from) }

  pub name_place : {end : ℕ} → NameEnds z.text s.at end → NamePlace z.text s.at end
  name_place ends = record { some = ends.from; few = ends.short; within = ends.within }

  -- a name
  module _ {end : ℕ} (ends : NameEnds z.text s.at end) where
    name_comes : Comes z.types z.text (used c.entries c.purpose (standing false (Ident (between s.at end z.text))) (drop end z.text))
    unfolding closed_for
    name_comes = reads_on (name (drop s.at z.text)) _ _ (between s.at end z.text) (drop end z.text) c.for.comes ends.reads

    -- is one too many
    pub name_full : TooMany (between s.at end z.text) z.names → Refuses z
    unfolding standing marks names_met added
    name_full h =
        let x = between s.at end z.text in
        let ms = before ++ (called x ∷ []) in
        unfit name_comes
        (many_names ms _ (crowded_met (called x ∷ []) c.for.stored h)
        (after_used ms c.entries c.purpose (standing false (Ident x)) (drop end z.text)
        (begins_by ms (node ∷ []) (begins_all ms) (simp append_assoc))))

    pub name_leaf : {after : NameTable} {n : ℕ} → NumberOf (between s.at end z.text) z.names after n
        → Leaf (noting z after z.code) work (further s end s.to) (made.Ident n) q
    unfolding noting standing marks records_after added form term_nesting annotation_count node_row seven
    name_leaf {n = n} number =
        let x = between s.at end z.text in
        record {
          entries = c.entries;
          purpose = c.purpose;
          term = Ident x;
          names = called x ∷ [];
          comes = name_comes;
          placed = let p = placed_at end (let f = ends.from in omega (arith, f)) ends.within in record { within = p.within; near = p.near };
          deep = c.for.deep;
          purpose_is = c.for.purpose_is;
          stored = stored_as (stored_name x c.for.stored number.noted) (append_assoc (entries_marks c.entries) (purpose_marks c.purpose) (called x ∷ [])) (λ numbers. refl);
          marks_are = refl;
          row_is = λ numbers e. let is = number_noted x (table_names z.names) [] _ numbers number.noted.names number.number_is e in rw is refl;
          form_is = refl;
          nest_is = refl;
          tally_is = refl;
        }

  -- a leaf without a name
  bare_leaf : (t : ProofTerm Name) (leaf : Node) (end : ℕ) → Comes z.types z.text (used c.entries c.purpose (standing false t) (drop end z.text))
      → s.at ≤ end → end ≤ length z.text → marks t ≡ node ∷ [] → ((number : Name → ℕ) → node_row leaf 0 ≡ records_after number before t)
      → form t ≡ closed → term_nesting t ≡ 1 → annotation_count t ≡ 0 → Leaf z work (further s end s.to) leaf q
  bare_leaf t leaf end comes from within marks_are row_is form_is nest_is tally_is = record {
    entries = c.entries;
    purpose = c.purpose;
    term = t;
    names = [];
    comes = comes;
    placed = placed_at end from within;
    deep = c.for.deep;
    purpose_is = c.for.purpose_is;
    stored = stored_as c.for.stored (rw (append-nil (purpose_marks c.purpose)) refl) (λ number. refl);
    marks_are = marks_are;
    row_is = λ number e. row_is number;
    form_is = form_is;
    nest_is = nest_is;
    tally_is = tally_is;
  }

  pub sorry_leaf : {end : ℕ} → name (drop s.at z.text) ≡ None → is_sorry (start_of (word (drop s.at z.text)).value) ≡ true
      → WordEnds z.text s.at end → Leaf z work (further s end s.to) made.Sorry q
  unfolding closed_for marks records_after form term_nesting annotation_count node_row
  sorry_leaf {end} no_name is ends =
      let rest : (word (drop s.at z.text)).rest ≡ drop end z.text = ap (λ w. w.rest) ends.is in
      bare_leaf Sorry made.Sorry end (comes_as (reads_else (name (drop s.at z.text)) _ _ c.for.comes no_name) (rw (is, rest))) ends.from ends.within
      refl (λ number. refl) refl refl refl

  -- a bracket
  module _ (none_there : Wordless z.text s.at) where
    bracket_comes : Comes z.types z.text (and_then (expect (utf8 "(") (drop s.at z.text)) (opening c.entries c.purpose))
    unfolding closed_for opening
    bracket_comes = comes_as (reads_else (name (drop s.at z.text)) _ _ c.for.comes none_there.no_name) (rw none_there.no_sorry)

    pub no_bracket : expect (utf8 "(") (drop s.at z.text) ≡ None → Refuses z
    no_bracket e = ends_here (expect (utf8 "(") (drop s.at z.text)) (opening c.entries c.purpose) bracket_comes e

    module _ {inside : ℕ} (bracket : Expected (utf8 "(") z.text s.at inside) where
      opened_comes : Comes z.types z.text (opening c.entries c.purpose tt (drop inside z.text))
      opened_comes = goes_on (expect (utf8 "(") (drop s.at z.text)) (opening c.entries c.purpose) tt (drop inside z.text) bracket_comes bracket.reads

      pub unit_leaf : {end : ℕ} → Expected (utf8 ")") z.text inside end → Leaf z work (further s end s.to) made.Unit q
      unfolding opening marks records_after form term_nesting annotation_count node_row
      unit_leaf {end} close =
          bare_leaf Unit made.Unit end (reads_on (expect (utf8 ")") (drop inside z.text)) _ _ tt (drop end z.text) opened_comes close.reads)
          (let a = bracket.after in let b = close.after in omega (arith, a, b)) close.within refl (λ number. refl) refl refl refl

      pub bracket_opens : Opens c.entries (in_bracket c.purpose) z work (further s inside s.to)
          (Bracket q)
      unfolding entry_marks entry_records entry_after
      bracket_opens = record {
        placed = placed_at inside (let a = bracket.after in omega (arith, a)) bracket.within;
        deep = c.for.deep;
        met = before;
        records = λ number. stack_records number c.entries ++ purpose_records number (entries_marks c.entries) c.purpose;
        stored = c.for.stored;
        marks_are = refl;
        records_are = λ number. refl;
        entry_is = λ number e. ap Bracket c.for.purpose_is;
      }

      pub bracket_enters : expect (utf8 ")") (drop inside z.text) ≡ None → Comes z.types z.text (Some (reading (in_bracket c.purpose ∷ c.entries) (drop inside z.text)))
      unfolding opening
      bracket_enters e = reads_else (expect (utf8 ")") (drop inside z.text)) _ _ opened_comes e
