-- Behind a colon: the label is read, and the record of the ascription is made over the term in hand.
use Prim.Native.Nat.{ℕ, ◌+◌, ◌-◌, max, ◌<◌, ◌≤◌}
use mathlib.Core.Path.{◌≡◌, refl, subst}
use mathlib.Core.Bool.{true, false}
use Rattle.std.specs.Prelude.{Option, None, Some}
use mathlib.Core.List.{List, [], ◌∷◌, ◌++◌, append_assoc, append-nil}
use native.Mathlib.Omega.{arith}
use lib.ListN.{drop}
use lib.Dec.{leb}
use Rattle.definitions.specs.declared.Style.TheVariants.{Strict}
use Rattle.definitions.specs.Utf8.{utf8}
use Rattle.definitions.specs.Name.{Name}
use Rattle.definitions.specs.Code.{Read}
use Rattle.definitions.specs.Term.{Label, ProofTerm, TypeAscription, annotation_count}
use Rattle.definitions.specs.Display.{form, ascribed_by, wraps}
use Rattle.definitions.specs.TermText.{term_nesting, label_names}
use Rattle.definitions.specs.TermReader.{Shown, standing, same, expect, if_read, argument_follows, label, prop_levels}
use Rattle.definitions.specs.TermMemory.{label_kind, label_number, seven}
use Rattle.reading_laws.specs.TermMachine.{Entry, State, holding, giving, and_then, if_due, chain, turn}
use Rattle.reading_laws.specs.Marks.{labelled, node, marks, entries_marks, met, nodes_met, names_met, limited_met}
use Rattle.reading_laws.proofs.Entries.{hand_nesting}
use Rattle.reading_laws.proofs.OnTheWay.{Fits}
use Rattle.reading_laws.proofs.Turns.{Next, next_then}
use Rattle.words.specs.declared.name_table.NameTable.{NameTable}
use Rattle.words.specs.Places.{Expected}
use Rattle.words.specs.Table.{table_names}
use Rattle.atom_reader.proofs.Readings.{gives_from}
use Rattle.proof_term.specs.declared.nodes.Label as numbered
use Rattle.proof_term.specs.declared.nodes.Node.TheVariants as made
use Rattle.prop_reader.specs.declared.LabelRead.{LabelRead}
use Rattle.prop_reader.specs.Limits.{fits_label}
use Rattle.prop_reader.specs.Answer.{LabelBegins, LabelGiven, LabelAnswer}
use Rattle.term_stack.specs.declared.Progress.{Progress}
use Rattle.proof_term.specs.declared.forms.Form.TheVariants.{Function, Ascription}
use Rattle.term_stack.specs.declared.Hand.{Hand}
use Rattle.term_stack.specs.declared.State.TheVariants.{Giving}
use Rattle.term_stack.specs.declared.Work.{Work}
use Rattle.proof_term.specs.Forms.{as_form, rank}
use Rattle.term_stack.specs.Forms.{least_form}
use Rattle.term_stack.specs.Growing.{node_row, Unmade, MadeOf}
use Rattle.term_stack.specs.Numbers.{labels_met, code_met, root_after, records_after, stack_records, term_records}
use Rattle.term_stack.specs.Standing.{Scene, StateOf, AtTerm, AtState, left_at, left_of}
use Rattle.term_stack.specs.Using.{Comes, Refuses, Turned, Grows}
use Rattle.term_stack.proofs.Marked.{even_labels}
use Rattle.term_stack.proofs.Coming.{comes_as, goes_on, reads_on, as_due, not_due, unfit}
use Rattle.term_stack.proofs.LabelNumbers.{label_kind_is, label_number_is}
use Rattle.term_stack.proofs.Grown.{due_at, grown_not, grown_to, over}
use Rattle.term_stack.proofs.Used.{hand_small}
use Rattle.term_openings.proofs.Noting.{noting, stored_met}
use Rattle.term_openings.proofs.StoredLabels.{label_limited, label_to, label_is, label_stored, label_unfit}
use Rattle.term_openings.proofs.ClosedTerms.{further}

-- the term in hand is small
pub held_small : {state : StateOf} {z : Scene} {work : Work} {s : Progress} {h : Hand} → AtTerm state h z work s
    → (0 < s.used) × (s.used ≤ 2048) × (h.nest ≤ 512) × (h.tally ≤ 4098)
held_small {s = s} {h = h} at = let b = at.behind in hand_small (entries_marks at.entries) at.term s h b.hand b.stored.few b.stored.used_is

-- where the machine turns to behind a term
pub comes_chain : {z : Scene} {work : Work} {s : Progress} {h : Hand} (at : AtTerm holding h z work s)
    → Comes z.types z.text (chain z.types at.entries at.term (drop s.at z.text))
unfolding turn
comes_chain at = record { from = _; reached = at.behind.reached; turns = refl }

-- what the machine does with the label
abbrev ascription : List Entry → Shown (ProofTerm Name) → Label Name → List ℕ → Option State
ascription k a l v = Some (giving k (standing false (TypeAscription a.shown l)) v)

-- and behind a term that no argument follows
abbrev pub after_last : List Name → List Entry → Shown (ProofTerm Name) → List ℕ → Option State
after_last types k a s =
    if_read (expect (utf8 ": ") s) (λ u t. if_due a.own (wraps Strict ascribed_by a.shown) (and_then (label types prop_levels t) (ascription k a)))
    (Some (giving k a s))

pub comes_last : {z : Scene} {work : Work} {s : Progress} {h : Hand} (held : AtTerm holding h z work s) → argument_follows (drop s.at z.text) ≡ false
    → Comes z.types z.text (after_last z.types held.entries held.term (drop s.at z.text))
unfolding chain
comes_last held bare = comes_as (comes_chain held) (rw bare)

module _ {z : Scene} {work : Work} {s : Progress} {h : Hand} (held : AtTerm holding h z work s) {at : ℕ} (bare : argument_follows (drop s.at z.text) ≡ false)
    (colon : Expected (utf8 ": ") z.text s.at at) where
  of_text : z.names.text.now ≡ z.text
  of_text = held.behind.stored.of_text

  comes_label : Comes z.types z.text
      (if_due held.term.own (wraps Strict ascribed_by held.term.shown) (and_then (label z.types prop_levels (drop at z.text)) (ascription held.entries held.term)))
  comes_label = reads_on (expect (utf8 ": ") (drop s.at z.text)) _ _ tt _ (comes_last held bare) colon.reads

  -- a label may begin there
  pub label_begins : LabelBegins at z.names s.to
  unfolding code_met
  label_begins =
      let b = held.behind in
      record {
        within = rw of_text colon.within;
        even = rw b.stored.to_is (even_labels (labels_met (entries_marks held.entries ++ marks held.term.shown)));
        near = let n = b.placed.near in let on = colon.after in omega (arith, n, on);
      }

  -- brackets that are not due
  pub label_not_due : same h.own (leb (rank Function) (rank h.form)) ≡ false → Refuses z
  unfolding least_form rank
  label_not_due d = not_due _ _ _ comes_label (due_at ascribed_by held.behind.hand d)

  module _ (due : same h.own (leb (rank Function) (rank h.form)) ≡ true) where
    comes_due : Comes z.types z.text (and_then (label z.types prop_levels (drop at z.text)) (ascription held.entries held.term))
    unfolding least_form rank
    comes_due = as_due _ _ _ comes_label (due_at ascribed_by held.behind.hand due)

    -- no label stands there, or one past the limits
    pub no_label : {after : NameTable} {code' : List ℕ} → LabelAnswer at z.types z.names z.code s.to after code' None → Refuses z
    unfolding Next met marks standing
    no_label answer =
        unfit comes_due
        (next_then (λ τ. Fits τ → ⊥) (λ l v. fits_label (table_names z.names) l ≡ false) (label z.types prop_levels (drop at z.text)) _
        (gives_from _ _ (subst (λ t. (x : Read (Label Name)) → label z.types prop_levels (drop at t) ≡ Some x → fits_label (table_names z.names) x.value ≡ false) of_text answer.answer)) λ l v unfit-label.
        label_unfit held.behind.stored l unfit-label (giving held.entries (standing false (TypeAscription held.term.shown l)) v)
        (record { more = node ∷ []; is = simp append_assoc }))

    module _ {after : NameTable} {code' : List ℕ} {r : LabelRead numbered.Label} (answer : LabelAnswer at z.types z.names z.code s.to after code' (Some r)) where
      label_grows : {l : Label Name} → LabelGiven at z.types z.names z.code s.to after code' r l
          → Grows held.entries (TypeAscription held.term.shown l) (noting z after code') work (further s r.end r.to)
          (node_row (made.TypeAscription (s.used - 1) r.label) (1 + h.tally)) (over Ascription 0 1 h)
      unfolding noting names_met nodes_met limited_met code_met labels_met term_records records_after marks form as_form term_nesting annotation_count node_row root_after seven
      label_grows {l} given =
          let b = held.behind in
          let k = held.entries in
          let a = held.term.shown in
          let ms = entries_marks k ++ marks a in
          let near = given.near in
          let before = b.placed.near in
          let on = colon.after in
          let nest = b.hand.nest in
          let tally = b.hand.tally in
          let counted : 1 + h.tally ≡ 1 + annotation_count a = omega (arith, tally) in
          record {
            placed = record { within = rw of_text at given.within; near = omega (arith, near, before, on) };
            deep = b.deep;
            met = ms ++ (labelled l ∷ []);
            records = λ number. term_records number k a;
            stored =
                stored_met (labelled l ∷ []) b.stored (rw (append-nil (label_names l)) given.noted) refl (rw (label_limited given) refl) (label_to given) (label_stored given);
            marks_are = simp append_assoc;
            last = λ number. seven 11 (root_after (entries_marks k) a) 0 (label_kind l) (label_number number (code_met ms) l) 0 (1 + annotation_count a);
            row_is = λ number extends.
                let u = b.stored.used_is in
                let kind_is = label_kind_is number s.to l (label_is given number extends) in
                let number_is = label_number_is number s.to l (label_is given number extends) in
                let to_is = b.stored.to_is in
                cc;
            long = refl;
            records_are = λ number. append_assoc (stack_records number k) (records_after number (entries_marks k) a) _;
            form_is = refl;
            bare = refl;
            nest_is = omega (arith, nest);
            tally_is = counted;
          }

      -- the record passes a limit
      pub ascription_not : Unmade s.used (max 0 h.nest + 1) → Refuses (noting z after code')
      unfolding noting met hand_nesting standing
      ascription_not why =
          let (l, given) = answer.answer in
          grown_not (label_grows given) giving (goes_on (label z.types prop_levels (drop at z.text)) _ l _ comes_due (rw of_text at given.reads)) refl refl why

      -- the term and its label are whole
      pub ascription_turned : {work' : Work} {t : Progress}
          → MadeOf (further s r.end r.to) (node_row (made.TypeAscription (s.used - 1) r.label) (1 + h.tally)) (over Ascription 0 1 h) work work' t
          → Turned (noting z after code') work' (left_at z.text s 1) (Giving t (over Ascription 0 1 h))
      unfolding noting met hand_nesting standing AtState left_of left_at
      ascription_turned m =
          let (l, given) = answer.answer in
          let from = given.from in
          let on = colon.after in
          record {
            there = grown_to (label_grows given) giving (goes_on (label z.types prop_levels (drop at z.text)) _ l _ comes_due (rw of_text at given.reads)) refl refl m;
            less = let within = rw of_text at given.within in rw m.is (omega (arith, from, on, within));
          }
