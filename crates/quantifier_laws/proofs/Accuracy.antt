-- Every sound sheet has the accuracy statement: its root's deduction gives the term, and the answers are that term's.
-- The law of the definitions, of ticket 12's families: these stand beside document 01's until code has them.
use Prim.Native.Nat.{ℕ}
use mathlib.Core.Path.{◌≡◌, sym, ap, ◌∙◌}
use mathlib.Core.List.{List, []}
use Rattle.definitions.specs.Outcome.{accepted, ◌>>=◌, map_outcome}
use Rattle.definitions.specs.Name.{Name}
use Rattle.definitions.specs.AlphaEquality.{Nameless}
use Rattle.definitions.specs.Sheet.{name_of}
use Rattle.definitions.specs.Term.{ProofTerm, rename_term, annotation_count}
use Rattle.definitions.specs.Export.{checking, export}
use Rattle.definitions.specs.Text.{heading, text}
use Rattle.definitions.specs.Answers.{sheet_term, named_term, goal_prop, sheet_text, text_answer, label_count}
use Rattle.quantifier_laws.specs.Labels.{total}
use Rattle.quantifier_laws.specs.Instantiation.{among}
use Rattle.quantifier_laws.specs.Rules.{objects, Checks}
use Rattle.quantifier_laws.specs.Sound.{Deduced, Sound, shadowing, context, entries, objects_of, among_entries}
use Rattle.quantifier_laws.specs.Accuracy.{Accurate}
use Rattle.definitions.proofs.Outcomes.{was_accepted, in_room}
use Rattle.definitions.proofs.Renaming.{export_same, annotation_count_same}
use Rattle.quantifier_laws.proofs.Instantiation.{among_none}
use Rattle.quantifier_laws.proofs.Labelling.{labels_counted, inferring_tally_same}
use Rattle.quantifier_laws.proofs.Exporting.{exports, check}
use Rattle.quantifier_laws.proofs.CheckerComplete.{checks_complete}
use Rattle.quantifier_laws.proofs.Conventions.{deduced_shadowing}

-- from no hypotheses the reading changes nothing
of_none : {u : ProofTerm Name} {a : Nameless} → Checks (context []) u (among (objects_of []) a) → Checks [] u a
unfolding context among_entries entries objects
of_none {a = a} d = rw (among_none a) at d

-- demand 3, under the shadowing convention
pub accuracy : (s : List ℕ) (d : Deduced shadowing s) → Accurate s d
unfolding named_term sheet_term sheet_text text_answer label_count map_outcome ◌>>=◌ text
accuracy s d =
    let f = name_of s in
    let x = exports d.deduction checking in
    let is_term : map_outcome (rename_term f) (export d.root checking) ≡ accepted x.term =
    sym (export_same f d.root checking) ∙ x.result.exported in
    let numbered = was_accepted (rename_term f) (export d.root checking) x.term is_term in
    record {
      term = x.term;
      is_term = rw d.is_admitted is_term;
      heading = λ v. heading v x.term (goal_prop s);
      texts = λ version v e style room h. rw e (in_room room (sheet_text s v style) _ (rw (d.is_admitted, is_term)) h);
      is_accepted = of_none (check x.accepts);
      judged = checks_complete (of_none (check x.accepts)) 0;
      labels = x.result.labelled;
      count =
          rw (d.is_admitted, numbered.1)
          (ap accepted
          (sym (annotation_count_same f numbered.0)
          ∙ (ap annotation_count numbered.2
          ∙ (labels_counted x.result.labelled ∙ ap total (inferring_tally_same f d.root checking)))));
    }

-- demand 3 for the ticket's sound sheets
pub sound_accuracy : (s : List ℕ) (d : Sound s) → Accurate s (deduced_shadowing s d.deduced)
sound_accuracy s d = accuracy s (deduced_shadowing s d.deduced)
