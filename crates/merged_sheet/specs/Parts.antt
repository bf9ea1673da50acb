-- The parts of a merged sheet as they are written: the host's, each before what is appended.
use Rattle.std.specs.Prelude.{ℕ, ◌+◌, ◌*◌, ◌-◌, ◌≤◌, ◌≡◌, List, ◌++◌, length, take, drop}
use Rattle.definitions.specs.Sheet as sheet
use Rattle.definitions.specs.Sheet.{step_size, name_limit, text_limit, text_length, code_length, name_pairs, proposition_pairs, step_records, text_bytes, code_bytes}
use Rattle.definitions.specs.Encode.{concat, encode_pairs}
use Rattle.definitions.specs.Graft.{missing, donor_codes}
use Rattle.output.specs.Numbers.{u16s}
use Rattle.renumbering.specs.Renumbered.{mapped}
use Rattle.renumbering.specs.StepOver.{steps_over}
use Rattle.sheet.specs.declared.header.Sheet.{Sheet}
use Rattle.appended_parts.specs.declared.Appended.{Appended}
use Rattle.merged_sheet.specs.declared.NewParts.{NewParts}
use Rattle.restating.specs.Step.{header_numbers}

-- the header and the pairs; and the text and the code: the host's, each before what is appended
unfoldable pub head_and_pairs : List ℕ → NewParts → List ℕ
head_and_pairs s new =
    u16s (header_numbers new.header)
    ++ ((name_pairs s ++ new.name_pairs.now) ++ (proposition_pairs s ++ new.proposition_pairs.now))

unfoldable pub text_and_code : List ℕ → NewParts → List ℕ
text_and_code s new = (text_bytes s ++ new.text.now) ++ (code_bytes s ++ new.code.now)

-- the host's steps with the donor's, over the numbers of a map, in place of step k
unfoldable pub records_with : List ℕ → ℕ → List ℕ → List ℕ → List ℕ
records_with s k t numbers =
    take (step_size * k) (step_records s)
    ++ (steps_over (mapped numbers) (sheet.propositions s) (step_records t) (sheet.steps t) ++ drop (step_size * (k + 1)) (step_records s))

-- no more is appended than a sheet can have
pub record Few (a : Appended) : Type 0 where
  pub pieces : a.count ≤ name_limit
  pub bytes : a.length ≤ text_limit

unfoldable pub header_with : Sheet → Sheet → Appended → Appended → Sheet
header_with h g a b =
    record {
      text_length = h.text_length + a.length;
      names = h.names + a.count;
      code_length = h.code_length + b.length;
      propositions = h.propositions + g.propositions;
      steps = (h.steps + g.steps) - 1;
      goal = h.goal;
    }

-- the merged header, and what is appended
pub record PartsOf (s t : List ℕ) (new : NewParts) : Type 0 where
  pub text_size : new.header.text_length ≡ text_length s + length (concat (missing s t))
  pub names : new.header.names ≡ sheet.names s + length (missing s t)
  pub code_size : new.header.code_length ≡ code_length s + length (concat (donor_codes s t))
  pub propositions : new.header.propositions ≡ sheet.propositions s + sheet.propositions t
  pub steps : new.header.steps ≡ (sheet.steps s + sheet.steps t) - 1
  pub goal : new.header.goal ≡ sheet.goal s
  pub name_pairs : new.name_pairs.now ≡ encode_pairs (text_length s) (missing s t)
  pub text : new.text.now ≡ concat (missing s t)
  pub proposition_pairs : new.proposition_pairs.now ≡ encode_pairs (code_length s) (donor_codes s t)
  pub code : new.code.now ≡ concat (donor_codes s t)
