-- A step's record has the same fields wherever it stands among records.
use Prim.Native.Nat.{ℕ, zero, suc, ◌+◌, ◌*◌, ◌≤◌, ◌<◌}
use mathlib.Core.Path.{◌≡◌, refl, ◌∙◌}
use mathlib.Core.List.{List, ◌++◌}
use native.Mathlib.Omega.{arith}
use lib.ListN.{length, get_or, get_or-append}
use lib.Seq.{get_or-append-add}
use Rattle.definitions.specs.Sheet.{step_size, number_at, rule_byte, premiss_count, step_number, column}
use Rattle.definitions.specs.Tree.{rule_in, identifier_in, conclusion_in, step_in, step_over, trees_before, tree_in}
use Rattle.definitions.specs.Admission.{no_name, not_zero, bad_identifier, bad_prop_is_true, bad_type_judgement, bad_conclusion, bad_column, identifiers, bad_step}

-- step k of the one has the bytes of step j of the other
pub record SameStep (records : List ℕ) (k : ℕ) (others : List ℕ) (j : ℕ) : Type 0 where
  pub bytes : (i : ℕ) → i < step_size → get_or records (step_size * k + i) 0 ≡ get_or others (step_size * j + i) 0

module _ {records others : List ℕ} {k j : ℕ} (same : SameStep records k others j) where
  pub same_rule_byte : rule_byte records k ≡ rule_byte others j
  unfolding rule_byte step_size
  same_rule_byte =
      let e : 20 * k + 0 ≡ 20 * k = omega arith in
      let e' : 20 * j + 0 ≡ 20 * j = omega arith in
      rw (e, e') at (same.bytes 0 (omega arith))

  pub same_premiss_count : premiss_count records k ≡ premiss_count others j
  unfolding premiss_count step_size
  same_premiss_count = same.bytes 1 (omega arith)

  pub same_number : (at : ℕ) → at + 1 < step_size → step_number records k at ≡ step_number others j at
  unfolding step_number number_at step_size
  same_number at h =
      let e : (20 * k + at) + 1 ≡ 20 * k + (at + 1) = omega arith in
      let e' : (20 * j + at) + 1 ≡ 20 * j + (at + 1) = omega arith in
      rw (e, e', same.bytes at (omega arith), same.bytes (at + 1) (omega arith))

  pub same_rule : rule_in records k ≡ rule_in others j
  unfolding rule_in
  same_rule = rw same_rule_byte

  module _ (names : ℕ) (pairs code : List ℕ) where
    pub same_identifier : (at : ℕ) → at + 3 < step_size → identifier_in names pairs code records k at ≡ identifier_in names pairs code others j at
    unfolding identifier_in step_size
    same_identifier at h = rw (same_number at (omega arith), same_number (at + 2) (omega arith))

    pub same_conclusion : conclusion_in names pairs code records k ≡ conclusion_in names pairs code others j
    unfolding conclusion_in step_size
    same_conclusion = rw (same_number 10 (omega arith), same_number 12 (omega arith), same_number 16 (omega arith), same_identifier 12 (omega arith))

  module _ (names propositions : ℕ) where
    pub same_bad_conclusion : bad_conclusion names propositions records k ≡ bad_conclusion names propositions others j
    unfolding bad_conclusion bad_prop_is_true bad_type_judgement no_name not_zero step_size
    same_bad_conclusion =
        rw (same_number 10 (omega arith), same_number 12 (omega arith), same_number 14 (omega arith), same_number 16 (omega arith))

    pub same_bad_column : bad_column names propositions records k ≡ bad_column names propositions others j
    unfolding bad_column column step_size
    same_bad_column = rw (same_number 18 (omega arith))

    pub same_bad_step : bad_step names propositions records k ≡ bad_step names propositions others j
    unfolding bad_step bad_identifier identifiers no_name not_zero step_size
    same_bad_step =
        rw (
          same_rule_byte,
          same_rule,
          same_number 2 (omega arith),
          same_number 4 (omega arith),
          same_number 6 (omega arith),
          same_number 8 (omega arith),
          same_bad_conclusion,
          same_bad_column,
        )

-- a step of the first of two rows of records
pub first_row : (a b : List ℕ) (k : ℕ) → step_size * (k + 1) ≤ length a → SameStep (a ++ b) k a k
unfolding step_size
first_row a b k h = record { bytes = λ i l. get_or-append a b 0 (20 * k + i) (omega arith) }

-- a step of the second
pub second_row : (a b : List ℕ) (n k : ℕ) → length a ≡ step_size * n → SameStep (a ++ b) (n + k) b k
unfolding step_size
second_row a b n k e =
    record { bytes = λ i l. let z : 20 * (n + k) + i ≡ length a + (20 * k + i) = omega arith in rw z (get_or-append-add a b (20 * k + i) 0) }

pub same_steps : {a b c : List ℕ} {i j k : ℕ} → SameStep a i b j → SameStep b j c k → SameStep a i c k
same_steps s t = record { bytes = λ i h. s.bytes i h ∙ t.bytes i h }

-- Trees of the first row of records.
module _ (names : ℕ) (pairs code a b : List ℕ) where
  -- the step is the same
  first_step : (k : ℕ) → step_size * (k + 1) ≤ length a → step_in names pairs code (a ++ b) k ≡ step_in names pairs code a k
  unfolding step_in step_size
  first_step k h =
      let same = first_row a b k h in
      rw (
        same_rule same,
        same_identifier same names pairs code 2 (omega arith),
        same_identifier same names pairs code 6 (omega arith),
        same_conclusion same names pairs code,
      )

  pub first_trees : (k : ℕ) → step_size * k ≤ length a → trees_before names pairs code (a ++ b) k ≡ trees_before names pairs code a k
  unfolding trees_before step_over step_size
  first_trees zero h = refl
  first_trees (suc k) h =
      let h' : 20 * (k + 1) ≤ length a = omega arith in
      rw (first_trees k (omega arith), first_step k h', same_premiss_count (first_row a b k h'))

  pub first_tree : (k : ℕ) → step_size * (k + 1) ≤ length a → tree_in names pairs code (a ++ b) k ≡ tree_in names pairs code a k
  unfolding tree_in step_over step_size
  first_tree k h = rw (first_trees k (omega arith), first_step k h, same_premiss_count (first_row a b k h))
