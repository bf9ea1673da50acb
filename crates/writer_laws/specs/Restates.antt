-- Ticket 9: what a restated sheet keeps of the old one, and what its new step is.
use Rattle.std.specs.Prelude.{ℕ, suc, ◌-◌, ◌<◌, ◌≡◌, true, List, ◌++◌}
use Rattle.definitions.specs.declared.Refusal.{Refusal}
use Rattle.definitions.specs.declared.Style.{Style}
use Rattle.definitions.specs.Outcome.{accepted, refused}
use Rattle.definitions.specs.Sheet.{names, propositions, steps, goal, column, name_pairs, proposition_pairs, step_records, text_bytes, code_bytes}
use Rattle.definitions.specs.Tree.{ProofTree, Step, over, ◌and◌, none, AlphaEquivalent}
use Rattle.definitions.specs.Admission.{admitted}
use Rattle.definitions.specs.Answers.{located, sheet_term, named_term, text_answer, atoms_answer, datatypes_answer, label_count, named_conclusion, comparison, board_output}
use Rattle.definitions.specs.Restate.{Given, new_record, given_conclusion}
use Rattle.definitions.specs.NameIndex.{index_of}

-- the parts of s stand in a as they are, gaps included, with one more record
pub record KeepsParts (s : List ℕ) (g : Given) (a : List ℕ) : Type 0 where
  pub same_names : names a ≡ names s
  pub same_propositions : propositions a ≡ propositions s
  pub same_goal : goal a ≡ goal s
  pub one_step_more : steps a ≡ suc (steps s)
  pub same_name_pairs : name_pairs a ≡ name_pairs s
  pub same_proposition_pairs : proposition_pairs a ≡ proposition_pairs s
  pub one_record_more : step_records a ≡ step_records s ++ new_record g
  pub same_text_bytes : text_bytes a ≡ text_bytes s
  pub same_code_bytes : code_bytes a ≡ code_bytes s

-- every answer to a is that to s: texts in each version, style and room, lists, labels, comparisons of the old steps, what the board
-- prints, and a refusal's number, place and column
pub record SameAnswers (s a : List ℕ) : Type 0 where
  pub same_term : sheet_term a ≡ sheet_term s
  pub same_named_term : named_term a ≡ named_term s
  pub same_text : (version : ℕ) (style : Style) (room : ℕ) → text_answer a version style room ≡ text_answer s version style room
  pub same_atoms : (room : ℕ) → atoms_answer a room ≡ atoms_answer s room
  pub same_datatypes : (version room : ℕ) → datatypes_answer a version room ≡ datatypes_answer s version room
  pub same_count : label_count a ≡ label_count s
  pub same_comparison : (i j : ℕ) → i < steps s → j < steps s → comparison a i j ≡ comparison s i j
  pub same_columns : (r : Refusal) → sheet_term s ≡ refused r → located a r ≡ located s r
  pub same_output : board_output a ≡ board_output s
  pub same_index : index_of a ≡ index_of s

-- a is an admitted sheet whose root is AlphaEquivalent over that of s, with the given conclusion and column
pub record NewRoot (s : List ℕ) (g : Given) (a : List ℕ) : Type 0 where
  pub old_root : ProofTree ℕ
  pub new_step : Step ℕ
  pub old : admitted s ≡ accepted old_root
  pub new : admitted a ≡ accepted (over new_step (old_root and none))
  pub rule : new_step.rule ≡ AlphaEquivalent
  pub conclusion : named_conclusion a (steps s) ≡ given_conclusion s g
  pub column_given : column (step_records a) (steps s) ≡ g.column
  -- and its conclusion is alpha equal to that of the old root
  pub alpha_equal : comparison a (steps s - 1) (steps s) ≡ accepted true

pub record Restates (s : List ℕ) (g : Given) (a : List ℕ) : Type 0 where
  pub parts : KeepsParts s g a
  pub answers : SameAnswers s a
  pub root : NewRoot s g a
