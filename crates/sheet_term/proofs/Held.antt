-- What the walk's outcome over an accepted sheet gives to the readers of its term.
use Prim.Native.Nat.{ℕ, ◌+◌, ◌-◌, ◌*◌, ◌≤◌}
use mathlib.Core.Path.{◌≡◌, sym, ◌∙◌}
use mathlib.Core.Logic.{⊎_elim}
use mathlib.Core.List.{List, []}
use native.Mathlib.Omega.{arith}
use lib.ListN.{length}
use Rattle.definitions.specs.declared.Refusal.{Refusal}
use Rattle.definitions.specs.Outcome.{refused, accepted, ◌>>=◌}
use Rattle.definitions.specs.Prop.{Prop}
use Rattle.definitions.specs.Sheet.{names, steps, step_records, proposition_pairs, code_bytes, step_limit}
use Rattle.definitions.specs.Term.{ProofTerm}
use Rattle.definitions.specs.Tree.{tree_in, tree_of, root_of}
use Rattle.definitions.specs.Export.{export, checking}
use Rattle.definitions.specs.Admission.{bad_code, admitted}
use Rattle.definitions.specs.Answers.{sheet_term}
use Rattle.definitions.proofs.PrefixCode.{Bytes}
use Rattle.prefix_code.specs.PropAt.{Present}
use Rattle.prefix_code.proofs.Reading.{present_in}
use Rattle.prefix_code.proofs.Shapes.{left_present}
use Rattle.steps.proofs.GoodSteps.{known_conclusion}
use Rattle.proof_term.specs.Records.{record_size}
use Rattle.proof_term.specs.Labels.{of_records, InOrder}
use Rattle.proof_term.specs.Tally.{Tallied}
use Rattle.proof_term.specs.Readable.{NamesBelow}
use Rattle.proof_term.proofs.Fitting.{datatype_below}
use Rattle.proof_term.proofs.Tally.{nodes_tallied}
use Rattle.sheet.specs.Header.{header_of}
use Rattle.sheet.specs.declared.header.Sheet.{Sheet}
use Rattle.sheet.proofs.Admitted.{AcceptedSheet, code_of_bytes, has_codes}
use Rattle.std.specs.Prelude.{Result, Ok, Err, ℕ}
use Rattle.proof_tree.specs.Terms.{terms_labels, Ordered}
use Rattle.proof_tree.specs.Exporting.{LabelOffset, StepExported}
use Rattle.proof_tree.proofs.Labels.{has_proposition}
use Rattle.proof_tree.proofs.ExportedNames.{exported_names}
use Rattle.proof_tree.proofs.Walking.{term_of, refusal_of, size_within}
use Rattle.sheet_term.specs.Held.{LabelStands, HeldTerm}

-- what is no sheet has no term
pub not_a_sheet : (s : List ℕ) {r : Refusal} → admitted s ≡ refused r → sheet_term s ≡ refused r
unfolding sheet_term ◌>>=◌
not_a_sheet s e = rw e

-- what is made from the first record on stands in the order of its term
from_first : {before after : List ℕ} {next : ℕ} → 1 ≤ next → ((props : ℕ → Prop ℕ) → Ordered props before 0 [] after next) → InOrder after (next - 1)
unfolding of_records terms_labels
from_first {next = next} low o =
    let all : next - 1 + 1 ≡ next = omega arith in
    record { labels = λ props. rw all ((o props).made ∙ sym (o props).whole) }

-- before any record is made, each has earlier parts and keeps its tally
none_made : {terms : List ℕ} → Tallied terms 0
none_made = record { parts = λ m l. absurd (omega arith); cut_counts = λ m l. absurd (omega arith) }

module _ {s : List ℕ} {h : Sheet} (a : AcceptedSheet s h) where
  -- the root's outcome is the sheet's
  root_outcome : sheet_term s ≡ export (tree_in (names s) (proposition_pairs s) (code_bytes s) (step_records s) (steps s - 1)) checking
  unfolding sheet_term ◌>>=◌ root_of tree_of
  root_outcome = rw a.root

  -- a step that concludes a proposition has its number from the sheet
  label_stands : {offset : ℕ} → LabelOffset (proposition_pairs s) (code_bytes s) (step_records s) (steps s - 1) offset → LabelStands s offset
  unfolding header_of
  label_stands l =
      record {
        number = l.number;
        below = (known_conclusion _ _ _ l.step (a.sheet.good_step l.step (omega (arith, l.visited, a.sheet.in_range.some_step)))).proposition l.number l.concludes;
        stands = l.stands;
      }

  -- Over bytes:
  module _ (bytes : Bytes s) where
    -- a proposition stands at the offset of a label
    pub label_present : {offset : ℕ} → LabelStands s offset → Present (names s) (code_bytes s) offset
    unfolding bad_code
    label_present l =
        let whole = present_in _ (proposition_pairs s) _ l.number (code_of_bytes s bytes) ((has_codes a.sheet).decoded l.number l.below) in
        ⊎_elim (λ is. rw is whole) (λ is. left_present whole is) l.stands

    names_below : (t : ProofTerm ℕ) → export (tree_in (names s) (proposition_pairs s) (code_bytes s) (step_records s) (steps s - 1)) checking ≡ accepted t → NamesBelow (names s) t
    unfolding bad_code header_of
    names_below t e =
        exported_names _ _ _ _ _ (code_of_bytes s bytes) (has_codes a.sheet).decoded (steps s - 1)
        (λ j l. a.sheet.good_step j (omega (arith, a.sheet.in_range.some_step))) checking t e

    -- Of the walk's answer at the last step:
    module _ {before after : List ℕ} {r : Result ℕ Refusal} (room : length after ≡ 2 * record_size * step_limit)
        (walked : StepExported h.names (proposition_pairs s) (code_bytes s) (step_records s) (h.steps - 1) checking before 0 after r) where
      pub held : {next : ℕ} → r ≡ Ok next → HeldTerm s after (next - 1)
      unfolding header_of step_limit
      held {next} e =
          let t = term_of (rw a.header at walked) e in
          let most = size_within (names s) (proposition_pairs s) (code_bytes s) (step_records s) (steps s - 1) in
          let range = a.sheet.in_range in
          let all : next - 1 + 1 ≡ next = omega (arith, t.low) in
          let ordered = from_first t.low (λ props. t.ordered props) in
          record {
            is_term = root_outcome ∙ t.holds;
            room = room;
            held = omega (arith, t.low, t.high, most, range.steps, range.some_step);
            below = names_below _ t.holds;
            in_order = ordered;
            parts = λ m h. (t.grown.tallied none_made).parts m (omega (arith, t.low));
            tallied = nodes_tallied (rw (← all) at (t.grown.tallied none_made)) ordered (omega (arith, t.high, most, range.steps));
            labels = λ m h l. record {
              datatype = datatype_below _ ordered (names_below _ t.holds) m h l;
              proposition = λ no_datatype. label_stands (t.grown.labels m _ (omega arith) (omega (arith, t.low)) (has_proposition after m l no_datatype));
            };
          }

      pub is_refused : {x : Refusal} → r ≡ Err x → sheet_term s ≡ refused x
      unfolding header_of
      is_refused {x} e = root_outcome ∙ refusal_of (rw a.header at walked) e
