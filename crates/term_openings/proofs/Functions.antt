-- A function: its parameter, the label of it, and then an entry for the body.
use Prim.Native.Nat.{ℕ, ◌<◌}
use mathlib.Core.Path.{◌≡◌, sym, ap, ◌∙◌, subst}
use mathlib.Core.Bool.{false, true≢false}
use Rattle.std.specs.Prelude.{Option, None, Some}
use mathlib.Core.List.{List, [], ◌∷◌, ◌++◌, append_assoc, append-nil}
use native.Mathlib.Omega.{arith}
use lib.ListN.{drop}
use Rattle.definitions.specs.Utf8.{utf8}
use Rattle.definitions.specs.Name.{Name}
use Rattle.definitions.specs.Term.{Label}
use Rattle.definitions.specs.TermText.{parameter_label_names}
use Rattle.definitions.specs.TermReader.{fn_word, name, expect, parameter_label, prop_levels}
use Rattle.definitions.proofs.Readings.{given}
use Rattle.reading_laws.specs.TermMachine.{Entry, function_body, State, reading, and_then, start}
use Rattle.reading_laws.specs.Marks.{Mark, called, labelled, label_marks, entry_marks, entries_marks, met, names_met}
use Rattle.reading_laws.proofs.OnTheWay.{Fits, nodes_label, names_label, label_limited}
use Rattle.reading_laws.proofs.Turns.{Next, next_then, next_after}
use Rattle.words.specs.declared.name_table.NameTable.{NameTable}
use Rattle.words.specs.Places.{Expected}
use Rattle.words.specs.Names.{added}
use Rattle.words.specs.Table.{table_names}
use Rattle.prop_parts.specs.declared.NameRead.{NameRead}
use Rattle.atom_reader.proofs.Readings.{gives_any, gives_from}
use Rattle.proof_term.specs.declared.nodes.Label as numbered
use Rattle.prop_reader.specs.declared.LabelRead.{LabelRead}
use Rattle.prop_reader.specs.Answer.{LabelBegins}
use Rattle.term_stack.specs.declared.Entry as stacked
use Rattle.term_stack.specs.declared.Work.{Work}
use Rattle.term_stack.specs.declared.Progress.{Progress}
use Rattle.term_stack.specs.declared.Entry.TheVariants.{FunctionBody}
use Rattle.term_stack.specs.Numbers.{labels_met, code_met, entry_after, entry_records, numbered_parameter, stack_of, stack_records}
use Rattle.term_stack.specs.Standing.{Scene, ThereIs, Stored}
use Rattle.term_stack.specs.Using.{Comes, Refuses}
use Rattle.term_stack.proofs.Coming.{unfit, goes_on, ends_here}
use Rattle.term_stack.proofs.Marked.{labels_label, code_called, even_labels}
use Rattle.term_stack.proofs.Opened.{Opens}
use Rattle.term_openings.specs.Beginning.{Started, NameThere, NameLacksAfter}
use Rattle.term_openings.specs.Parameters.{fits_parameter, ParameterLacks, ParameterGiven}
use Rattle.term_openings.proofs.Noting.{noting, stored_met, stored_name}
use Rattle.term_openings.proofs.ClosedTerms.{further, number_noted}
use Rattle.term_openings.proofs.FirstWords.{name_on, name_not, entry_crowded}
use Rattle.term_openings.proofs.StoredLabels.{label_unfit}

-- what is stored with the label of a parameter
stored_label : {ms : List Mark} {records : (Name → ℕ) → List ℕ} {stack : (Name → ℕ) → List stacked.Entry} {z : Scene} {work : Work} {used depth to at : ℕ} {types : List Name}
    {after : NameTable} {code : List ℕ} {r : LabelRead (Option numbered.Label)} {l : Option (Label Name)} → Stored ms records stack z work used depth to
    → ParameterGiven z.text at types z.names z.code to after code r l
    → Stored (ms ++ label_marks l) records stack (noting z after code) work used depth r.to
unfolding code_met
stored_label {l = l} st g =
    stored_met (label_marks l) st (rw (names_label l) g.noted) (nodes_label l) (label_limited l g.limited) (rw (labels_label l) g.to_is)
    (λ number e. rw (labels_label l) (g.stored number e))

-- a parameter whose label passes the limits
unfit_parameter : {ms : List Mark} {records : (Name → ℕ) → List ℕ} {stack : (Name → ℕ) → List stacked.Entry} {z : Scene} {work : Work} {used depth to : ℕ}
    → Stored ms records stack z work used depth to → (l : Option (Label Name)) → fits_parameter (table_names z.names) l ≡ false
    → (k : List Entry) (entry : Entry) (rest : List ℕ) → entries_marks (entry ∷ k) ≡ ms ++ label_marks l → Fits (reading (entry ∷ k) rest) → ⊥
unfolding fits_parameter label_marks met
unfit_parameter st None h k entry rest e = absurd (true≢false h)
unfit_parameter {ms} st (Some l) h k entry rest e =
    label_unfit st l h (reading (entry ∷ k) rest) (record { more = []; is = e ∙ sym (append-nil (ms ++ (labelled l ∷ []))) })

-- what the machine does behind the parameter and behind its label
unfoldable body_rest : List Entry → Name → Option (Label Name) → List ℕ → Option State
body_rest k x l t = and_then (expect (utf8 " => ") t) (λ u rest. Some (reading (function_body x l ∷ k) rest))

unfoldable label_rest : List Name → List Entry → Name → List ℕ → Option State
label_rest types k x t = and_then (parameter_label types prop_levels t) (body_rest k x)

module _ {z : Scene} {work : Work} {s : Progress} (c : Started fn_word z work s) where
  parameter_comes : Comes z.types z.text (and_then (expect (utf8 " ") (drop s.at z.text)) (λ u t. and_then (name t) (label_rest z.types c.entries)))
  unfolding start label_rest body_rest
  parameter_comes = c.comes

  pub parameter_not : NameLacksAfter (utf8 " ") z.text s.at z.names → Refuses z
  unfolding label_rest body_rest Next entries_marks entry_marks names_met added
  parameter_not lacks =
      name_not (utf8 " ") z.names s.at (label_rest z.types c.entries) parameter_comes lacks λ x rest crowded.
      next_then (λ τ. Fits τ → ⊥) (λ l t. Prim.Unit {0}) (parameter_label z.types prop_levels rest) _ (gives_any (parameter_label z.types prop_levels rest)) λ l s₁ u.
      next_after (λ τ. Fits τ → ⊥) (utf8 " => ") s₁ _ λ s₂ e₂.
      entry_crowded c.stored (called x ∷ []) (label_marks l) crowded c.entries (function_body x l) s₂
      (sym (append_assoc (entries_marks c.entries) (called x ∷ []) (label_marks l)))

  module _ {after : NameTable} {named : NameRead} (one : ThereIs (NameThere (utf8 " ") z.text s.at z.names after named)) where
    abbrev x : Name
    x = one.value

    abbrev with_name : Stored (entries_marks c.entries ++ (called x ∷ [])) (λ number. stack_records number c.entries) (λ number. stack_of number c.entries)
        (noting z after z.code) work s.used s.depth s.to
    with_name = stored_name x c.stored one.holds.noted

    -- the label is read of the same text
    same_text : after.text.now ≡ z.text
    same_text = one.holds.noted.same_text ∙ c.stored.of_text

    pub label_place : LabelBegins named.end after s.to
    unfolding code_met
    label_place = record {
      within = rw same_text one.holds.within;
      even = rw c.stored.to_is (even_labels (labels_met (entries_marks c.entries)));
      near = let n = c.placed.near in let f = one.holds.from in omega (arith, n, f);
    }

    label_comes : Comes z.types z.text (label_rest z.types c.entries x (drop named.end z.text))
    label_comes = name_on (utf8 " ") z.names s.at (label_rest z.types c.entries) parameter_comes one.holds

    pub label_not : ParameterLacks after.text.now named.end z.types after → Refuses z
    unfolding label_rest body_rest noting Next entries_marks entry_marks
    label_not lacks =
        let reading-of = parameter_label z.types prop_levels (drop named.end z.text) in
        unfit label_comes
        (next_then (λ τ. Fits τ → ⊥) (λ l t. reading-of ≡ given l t) reading-of _ (gives_from reading-of _ (λ y e. e)) λ l rest there.
        next_after (λ τ. Fits τ → ⊥) (utf8 " => ") rest _ λ s₁ e₁.
        unfit_parameter with_name l (subst (λ t. ParameterLacks t named.end z.types after) same_text lacks l rest there) c.entries (function_body x l) s₁
        (sym (append_assoc (entries_marks c.entries) (called x ∷ []) (label_marks l))))

    module _ {after' : NameTable} {code' : List ℕ} {label : LabelRead (Option numbered.Label)}
        (two : ThereIs (ParameterGiven after.text.now named.end z.types after z.code s.to after' code' label)) where
      there : ParameterGiven z.text named.end z.types after z.code s.to after' code' label two.value
      there = subst (λ t. ParameterGiven t named.end z.types after z.code s.to after' code' label two.value) same_text two.holds

      abbrev l : Option (Label Name)
      l = two.value

      body_comes : Comes z.types z.text (body_rest c.entries x l (drop label.end z.text))
      unfolding label_rest
      body_comes =
          goes_on (parameter_label z.types prop_levels (drop named.end z.text)) (body_rest c.entries x) l (drop label.end z.text) label_comes
          there.reads

      pub arrow_not : expect (utf8 " => ") (drop label.end z.text) ≡ None → Refuses z
      unfolding body_rest
      arrow_not e = ends_here (expect (utf8 " => ") (drop label.end z.text)) _ body_comes e

      module _ {body : ℕ} (arrow : Expected (utf8 " => ") z.text label.end body) where
        pub function_comes : Comes z.types z.text (Some (reading (function_body x l ∷ c.entries) (drop body z.text)))
        unfolding body_rest
        function_comes = goes_on (expect (utf8 " => ") (drop label.end z.text)) _ tt (drop body z.text) body_comes arrow.reads

        pub function_long : s.at < body
        function_long =
            let f = one.holds.from in let g = there.from in let a = arrow.after in omega (arith, f, g, a)

        pub function_opens : Opens c.entries (function_body x l) (noting z after' code') work (further s body label.to)
            (FunctionBody named.number label.label)
        unfolding noting entry_marks entry_records entry_after
        function_opens =
            let k = entries_marks c.entries in
            let once = one.holds in
            let twice = there in
            record {
              placed = record {
                within = arrow.within;
                near = let n = c.placed.near in let f = once.from in let m = twice.near in let a = arrow.after in omega (arith, n, f, m, a);
              };
              deep = c.deep;
              met = (k ++ (called x ∷ [])) ++ label_marks l;
              records = λ number. stack_records number c.entries;
              stored = stored_label with_name twice;
              marks_are = append_assoc k (called x ∷ []) (label_marks l);
              records_are = λ number. sym (append-nil (stack_records number c.entries));
              entry_is = λ number e.
                  let a = number_noted x (table_names z.names) (parameter_label_names l) _ number
                  (twice.noted.names ∙ ap (λ seen. added seen (parameter_label_names l)) once.noted.names) once.number_is e in
                  let to_is : s.to ≡ code_met (k ++ (called x ∷ [])) = c.stored.to_is ∙ sym (code_called k x) in
                  let b : label.label ≡ numbered_parameter number (code_met (k ++ (called x ∷ []))) l =
                  twice.label_is number e ∙ ap (λ to. numbered_parameter number to l) to_is in
                  cc (a, b);
            }
