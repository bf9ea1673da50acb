-- The writer's side of the format: a sheet put together from its parts, which may have gaps. Document 01, "The sheet".
use Rattle.std.specs.Prelude.{ℕ, List, ◌++◌, length}
use Rattle.definitions.specs.Code.{u16}
use Rattle.definitions.specs.Sheet as sheet

pub record Parts : Type 0 where
  -- how many names, propositions and steps there are, and the goal
  pub names : ℕ
  pub propositions : ℕ
  pub steps : ℕ
  pub goal : ℕ
  -- their pairs and records, the text and the code
  pub name_pairs : List ℕ
  pub proposition_pairs : List ℕ
  pub step_records : List ℕ
  pub text : List ℕ
  pub code : List ℕ

-- the six header numbers: T, N, C, P, S and the goal
unfoldable pub header_bytes : Parts → List ℕ
header_bytes p =
    u16 (length p.text) ++ (u16 p.names ++ (u16 (length p.code) ++ (u16 p.propositions ++ (u16 p.steps ++ u16 p.goal))))

-- the sheet of these parts
unfoldable pub assemble : Parts → List ℕ
assemble p =
    header_bytes p ++ (p.name_pairs ++ (p.proposition_pairs ++ (p.step_records ++ (p.text ++ p.code))))

-- the parts of a sheet's bytes
unfoldable pub parts_of : List ℕ → Parts
parts_of s =
    record {
      names = sheet.names s;
      propositions = sheet.propositions s;
      steps = sheet.steps s;
      goal = sheet.goal s;
      name_pairs = sheet.name_pairs s;
      proposition_pairs = sheet.proposition_pairs s;
      step_records = sheet.step_records s;
      text = sheet.text_bytes s;
      code = sheet.code_bytes s;
    }
