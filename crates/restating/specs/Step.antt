-- What is given, as the program holds it; and, of a sheet and the record of one more step: the tests between refusals 11 and 16, and
-- the sheet with that step.
use Rattle.std.specs.Prelude.{ℕ, ◌-◌, Bool, List, [], ◌∷◌}
use Rattle.definitions.specs.Outcome.{Outcome, ◌>>=◌, refuse_if}
use Rattle.definitions.specs.Name.{Name}
use Rattle.definitions.specs.Sheet.{names, propositions, steps, proposition_pairs, code_bytes, name_of}
use Rattle.definitions.specs.Tree.{ProofTreeConclusion, root_of, conclusion_in, rename_conclusion}
use Rattle.definitions.specs.Admission.{bad_step}
use Rattle.definitions.specs.Comparison.{conclusion_alpha_eq}
use Rattle.definitions.specs.Answers.{named_conclusion}
use Rattle.definitions.specs.Assemble.{assemble, parts_of}
use Rattle.definitions.specs.Restate as restate
use Rattle.definitions.specs.Restate.{with_step, no_step_left}
use Rattle.sheet.specs.declared.header.Sheet.{Sheet}
use Rattle.restating.specs.declared.Given.{Given}

unfoldable pub given_of : Given → restate.Given
given_of g =
    record { kind = g.kind; first = g.first; second = g.second; third = g.third; column = g.column }

-- the header's numbers in their order
unfoldable pub header_numbers : Sheet → List ℕ
header_numbers h = h.text_length ∷ h.names ∷ h.code_length ∷ h.propositions ∷ h.steps ∷ h.goal ∷ []

module _ (s step : List ℕ) where
  unfoldable pub sheet_with : List ℕ
  sheet_with = assemble (with_step (parts_of s) step)

  -- the step's conclusion over names as bytes
  unfoldable pub conclusion_of_step : ProofTreeConclusion Name
  conclusion_of_step = rename_conclusion (name_of s) (conclusion_in (names s) (proposition_pairs s) (code_bytes s) step 0)

  -- whether the root's conclusion and the step's are equal
  unfoldable pub root_compared : Outcome Bool
  root_compared = conclusion_alpha_eq (named_conclusion s (steps s - 1)) conclusion_of_step

  -- 23, 24, and then whether the conclusions are equal
  unfoldable pub judged : Outcome Bool
  judged = do
    _ ← refuse_if (bad_step (names s) (propositions s) step 0) 23 0
    _ ← refuse_if (no_step_left s (root_of s)) 24 0
    root_compared
