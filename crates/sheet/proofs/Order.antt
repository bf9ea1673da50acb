-- Refusals 1 to 11 are the five stages, one after the other.
use Prim.Native.Nat.{ℕ}
use mathlib.Core.Path.{◌≡◌, refl, ap, ◌∙◌}
use mathlib.Core.List.{List}
use borrow.Author.Tests.{eqb-true, not-false}
use Rattle.definitions.specs.Outcome.{Outcome, refused, accepted, ◌>>=◌}
use Rattle.definitions.specs.Tree.{ProofTree, root_of}
use Rattle.definitions.specs.Admission.{header_checks, admitted}
use Rattle.sheet.specs.declared.header.Sheet.{Sheet}
use Rattle.std.specs.Prelude.{Result, Ok, Err, ℕ}
use Rattle.sheet.specs.Header.{header_of, HasHeader}
use Rattle.sheet.specs.Checks.{answered, checked_of, name_checks, proposition_checks, step_checks, tree_checks}
use Rattle.sheet.specs.Sizes.{steps_finding_trees, unless_refused, sized_steps, Sized}
use Rattle.steps.proofs.Tables.{size_table_none}
use Rattle.definitions.proofs.Outcomes.{bind_assoc, each_accepted, test_failed}
use Rattle.definitions.proofs.Ranges.{in_range}
use Rattle.sheet.proofs.Stages.{stops, passes, answer_refused, answer_accepted, stage_accepted, stage_refuses, stage_refused}
use Rattle.definitions.specs.declared.Refusal.{Refusal}

module _ (s : List ℕ) where
  -- what is left of the checks after the stages before
  unfoldable pub from_trees : Outcome (ProofTree ℕ)
  from_trees = ◌>>=◌ (tree_checks s) (λ _. accepted (root_of s))

  unfoldable pub from_steps : Outcome (ProofTree ℕ)
  from_steps = ◌>>=◌ (step_checks s) (λ _. from_trees)

  unfoldable pub from_propositions : Outcome (ProofTree ℕ)
  from_propositions = ◌>>=◌ (proposition_checks s) (λ _. from_steps)

  unfoldable pub from_names : Outcome (ProofTree ℕ)
  from_names = ◌>>=◌ (name_checks s) (λ _. from_propositions)

  pub in_stages : ◌>>=◌ (header_checks s) (λ _. from_names) ≡ admitted s
  unfolding admitted header_checks name_checks proposition_checks step_checks tree_checks from_trees from_steps from_propositions from_names
  in_stages = simp bind_assoc

  stages : answered (header_of s) (◌>>=◌ (header_checks s) (λ _. from_names)) ≡ checked_of s
  unfolding checked_of
  stages = ap (answered (header_of s)) in_stages

  untouched : (table : List ℕ) → Sized s 0 table table
  untouched table = record { table = size_table_none _ _; kept = refl }

  -- where refusals 1 to 3 do not come, the header is right and the bytes are as many as it says
  pub header_given : {h : Sheet} {a : Unit {0}} → h ≡ header_of s → header_checks s ≡ accepted a → HasHeader s h
  unfolding header_checks header_of
  header_given same e =
      let (_, _, after_one) = each_accepted _ _ e in
      let (_, two, three) = each_accepted _ _ after_one in
      record {
        header = same;
        in_range = rw same (in_range s (test_failed _ _ _ two));
        whole = eqb-true _ _ (not-false _ (test_failed _ _ _ three));
      }

  -- What the answer of each stage says of the whole answer, and of the table of sizes. The stages before it have accepted.
  module _ {x : Refusal} (e : Err x ≡ answered (header_of s) (header_checks s)) where
    pub header_refuses : Err x ≡ checked_of s
    header_refuses = stage_refused (header_of s) (header_checks s) (λ _. from_names) e refl ∙ stages

    pub header_sizes : (table : List ℕ) → Sized s (sized_steps s) table table
    unfolding sized_steps unless_refused
    header_sizes table = rw (stage_refuses (header_of s) (header_checks s) e refl) (untouched table)

  module _ {h : Sheet} (header : Ok h ≡ answered (header_of s) (header_checks s)) where
    is_header : h ≡ header_of s
    is_header = (stage_accepted (header_of s) (header_checks s) header refl).0

    header_passes : header_checks s ≡ accepted tt
    header_passes = (stage_accepted (header_of s) (header_checks s) header refl).2

    pub header_found : HasHeader s h
    header_found = header_given is_header header_passes

    after_header : {r : Result Sheet Refusal} → r ≡ answered h from_names → r ≡ checked_of s
    unfolding ◌>>=◌
    after_header e = e ∙ rw (← is_header, header_passes) at stages

    module _ {x : Refusal} (e : refused x ≡ name_checks s) where
      pub names_refuse : Err x ≡ checked_of s
      unfolding from_names
      names_refuse = after_header (answer_refused _ (stops _ e))

      pub name_sizes : (table : List ℕ) → Sized s (sized_steps s) table table
      unfolding sized_steps unless_refused
      name_sizes table = rw (header_passes, ← e) (untouched table)

    module _ {a : Unit {0}} (names : accepted a ≡ name_checks s) where
      module _ {x : Refusal} (e : refused x ≡ proposition_checks s) where
        pub propositions_refuse : Err x ≡ checked_of s
        unfolding from_names from_propositions
        propositions_refuse = after_header (answer_refused _ (passes _ names (stops _ e)))

        pub proposition_sizes : (table : List ℕ) → Sized s (sized_steps s) table table
        unfolding sized_steps unless_refused
        proposition_sizes table = rw (header_passes, ← names, ← e) (untouched table)

      module _ {b : Unit {0}} (propositions : accepted b ≡ proposition_checks s) where
        module _ {x : Refusal} (e : refused x ≡ step_checks s) where
          pub steps_refuse : Err x ≡ checked_of s
          unfolding from_names from_propositions from_steps
          steps_refuse = after_header (answer_refused _ (passes _ names (passes _ propositions (stops _ e))))

          pub step_sizes : (table : List ℕ) → Sized s (sized_steps s) table table
          unfolding sized_steps unless_refused
          step_sizes table = rw (header_passes, ← names, ← propositions, ← e) (untouched table)

        module _ {d : Unit {0}} (steps : accepted d ≡ step_checks s) where
          pub trees_refuse : {x : Refusal} → refused x ≡ tree_checks s → Err x ≡ checked_of s
          unfolding from_names from_propositions from_steps from_trees
          trees_refuse e = after_header (answer_refused _ (passes _ names (passes _ propositions (passes _ steps (stops _ e)))))

          pub trees_pass : {f : Unit {0}} → accepted f ≡ tree_checks s → Ok h ≡ checked_of s
          unfolding from_names from_propositions from_steps from_trees
          trees_pass e =
              after_header (answer_accepted _ refl (passes _ names (passes _ propositions (passes _ steps (passes _ e refl)))))

          pub tree_sizes : {before after : List ℕ} → Sized s (steps_finding_trees s) before after → Sized s (sized_steps s) before after
          unfolding sized_steps unless_refused
          tree_sizes sized = rw (header_passes, ← names, ← propositions, ← steps) sized
