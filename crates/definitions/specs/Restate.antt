-- A conclusion restated: the old sheet with one more step, AlphaEquivalent over the old root, or the first of refusals 1 to 11, 23,
-- 24, 19 or 25, and 16. Document 02, ticket 9.
use Rattle.std.specs.Prelude.{ℕ, ◌+◌, ◌-◌, Bool, ◌||◌, not, List, ◌++◌, leb}
use Rattle.definitions.specs.Outcome.{Outcome, accepted, ◌>>=◌, refuse_if}
use Rattle.definitions.specs.Name.{Name}
use Rattle.definitions.specs.Code.{u16}
use Rattle.definitions.specs.Sheet.{step_limit, tree_nesting_limit, names, propositions, steps, proposition_pairs, code_bytes, name_of}
use Rattle.definitions.specs.Tree.{ProofTree, height, AlphaEquivalent, ProofTreeConclusion, conclusion_in, rename_conclusion}
use Rattle.definitions.specs.Admission.{admitted, bad_conclusion, bad_column}
use Rattle.definitions.specs.Comparison.{conclusion_alpha_eq}
use Rattle.definitions.specs.Answers.{is_in_room, named_conclusion}
use Rattle.definitions.specs.Assemble.{Parts, assemble, parts_of}
use Rattle.definitions.specs.Encode.{no_identifier, encode_rule}

-- a conclusion in the form of a step record, and a column
pub record Given : Type 0 where
  pub kind : ℕ
  pub first : ℕ
  pub second : ℕ
  pub third : ℕ
  pub column : ℕ

-- the new step's record: AlphaEquivalent over one premiss, without identifiers
unfoldable pub new_record : Given → List ℕ
new_record g =
    encode_rule AlphaEquivalent 1 no_identifier no_identifier
    ++ (u16 g.kind ++ (u16 g.first ++ (u16 g.second ++ (u16 g.third ++ u16 g.column))))

-- the parts with one more step; names, propositions and goal are kept, gaps included
unfoldable pub with_step : Parts → List ℕ → Parts
with_step p step =
    record {
      names = p.names;
      propositions = p.propositions;
      steps = p.steps + 1;
      goal = p.goal;
      name_pairs = p.name_pairs;
      proposition_pairs = p.proposition_pairs;
      step_records = p.step_records ++ step;
      text = p.text;
      code = p.code;
    }

-- 24: there are already 1,024 steps or 256 levels
unfoldable pub no_step_left : List ℕ → ProofTree ℕ → Bool
no_step_left s root = leb step_limit (steps s) || leb tree_nesting_limit (height root)

-- Of a sheet's bytes and what is given:
module _ (s : List ℕ) (g : Given) where
  unfoldable pub restated_sheet : List ℕ
  restated_sheet = assemble (with_step (parts_of s) (new_record g))

  -- the given conclusion over names as bytes
  unfoldable pub given_conclusion : ProofTreeConclusion Name
  given_conclusion = rename_conclusion (name_of s) (conclusion_in (names s) (proposition_pairs s) (code_bytes s) (new_record g) 0)

  -- 23: the given conclusion or column breaks the rules of a step
  unfoldable pub bad_given : Bool
  bad_given = bad_conclusion (names s) (propositions s) (new_record g) 0 || bad_column (names s) (propositions s) (new_record g) 0

  -- the new sheet, given room; 25: the old root's conclusion and the given one are not alpha equal
  unfoldable pub restated : Outcome (List ℕ)
  restated = do
    root ← admitted s
    _ ← refuse_if bad_given 23 0
    _ ← refuse_if (no_step_left s root) 24 0
    same ← conclusion_alpha_eq (named_conclusion s (steps s - 1)) given_conclusion
    _ ← refuse_if (not same) 25 0
    accepted restated_sheet

  -- the same in a room of bytes
  unfoldable pub restate_answer : ℕ → Outcome (List ℕ)
  restate_answer room = is_in_room room restated
