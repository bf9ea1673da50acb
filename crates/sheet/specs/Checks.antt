-- Refusals 1 to 11 in five stages, of which the definitions have the first, and what the checks answer.
use Rattle.std.specs.Prelude.{ℕ, ◌-◌, List, length, ltb, Result, Ok, Err}
use Rattle.definitions.specs.Outcome.{Outcome, refused, accepted, ◌>>=◌, refuse_if, refuse_lowest}
use Rattle.definitions.specs.Sheet.{header_size, names, text_length, code_length, propositions, steps, name_pairs, proposition_pairs, step_records, text_bytes, code_bytes}
use Rattle.definitions.specs.Admission.{bad_name_pair, bad_name, bad_proposition_pair, bad_code, deep_proposition, bad_step, too_few_trees, trees_left, deep_tree, admitted}
use Rattle.sheet.specs.declared.header.Sheet.{Sheet}
use Rattle.sheet.specs.Header.{header_of}
use Rattle.definitions.specs.declared.Refusal.{Refusal}

-- the outcome that an answer of the program is
abbrev pub outcome_of : {A : Type 0} → Result A Refusal → Outcome A
outcome_of (Err r) = refused r
outcome_of (Ok a) = accepted a

-- the header where the checks accept, else the refusal
unfoldable pub answered : {A : Type 0} → Sheet → Outcome A → Result Sheet Refusal
answered h (refused r) = Err r
answered h (accepted a) = Ok h

-- the header of an admitted sheet, or the first of refusals 1 to 11
unfoldable pub checked_of : List ℕ → Result Sheet Refusal
checked_of s = answered (header_of s) (admitted s)

-- Of a sheet's bytes:
module _ (s : List ℕ) where
  -- 1: a header's bytes
  unfoldable pub short_check : Outcome (Unit {0})
  short_check = refuse_if (ltb (length s) header_size) 1 0

  -- 4 and 5: the names
  unfoldable pub name_checks : Outcome (Unit {0})
  name_checks = do
    _ ← refuse_lowest (bad_name_pair (name_pairs s) (text_length s)) (names s) 4
    refuse_lowest (bad_name (name_pairs s) (text_bytes s)) (names s) 5

  -- 6 to 8: the propositions
  unfoldable pub proposition_checks : Outcome (Unit {0})
  proposition_checks = do
    _ ← refuse_lowest (bad_proposition_pair (proposition_pairs s) (code_length s)) (propositions s) 6
    _ ← refuse_lowest (bad_code (names s) (proposition_pairs s) (code_bytes s)) (propositions s) 7
    refuse_lowest (deep_proposition (names s) (proposition_pairs s) (code_bytes s)) (propositions s) 8

  -- 9: the steps
  unfoldable pub step_checks : Outcome (Unit {0})
  step_checks = refuse_lowest (bad_step (names s) (propositions s) (step_records s)) (steps s) 9

  -- 10 and 11: the steps' trees
  unfoldable pub tree_checks : Outcome (Unit {0})
  tree_checks =
      let n = names s in
      let pairs = proposition_pairs s in
      let code = code_bytes s in
      let records = step_records s in
      do
        _ ← refuse_lowest (too_few_trees n pairs code records) (steps s) 10
        _ ← refuse_if (trees_left n pairs code records (steps s)) 10 (steps s - 1)
        refuse_lowest (deep_tree n pairs code records) (steps s) 11
