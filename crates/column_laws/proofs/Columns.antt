-- Ticket 6: sheets that differ only in columns within range give the same term, texts, lists, count and comparisons, and the same refusals and places.
use Prim.Native.Nat.{ℕ, zero, suc, ◌+◌, ◌*◌, ◌-◌, ◌≤◌, ◌<◌, min}
use mathlib.Core.Path.{◌≡◌, refl, sym, ap, ap₂, ◌∙◌}
use mathlib.Core.List.{List}
use native.Mathlib.Omega.{arith}
use native.Mathlib.Decide.{dec_lt}
use lib.ListN.{length, get_or, take, drop, length-take, length-drop, get_or-eq_default}
use lib.Seq.{get_or-take, get_or-drop, ext_get_or}
use borrow.Author.Tests.{le-ltb}
use Rattle.definitions.specs.declared.Style.{Style}
use Rattle.definitions.specs.Outcome.{refuse_lowest}
use Rattle.definitions.specs.Sheet as sheet
use Rattle.definitions.specs.Sheet.{header_size, pair_size, step_size, column_limit, number_at, text_length, code_length, header_out_of_range, name_pairs_start, proposition_pairs_start, steps_start, text_start, code_start, sheet_length, text_bytes, code_bytes, rule_byte, premiss_count, step_number, column, name_of, marked}
use Rattle.definitions.specs.Tree.{rule_in, identifier_in, conclusion_in, conclusion_of, step_in, step_over, trees_before, tree_in, prop_of, tree_of, root_of}
use Rattle.definitions.specs.Admission.{no_name, not_zero, bad_identifier, bad_prop_is_true, bad_type_judgement, bad_conclusion, bad_column, identifiers, bad_step, too_few_trees, trees_left, deep_tree, header_checks, admitted}
use Rattle.definitions.specs.Answers.{sheet_term, named_term, goal_prop, sheet_text, text_answer, atoms_answer, datatypes_answer, label_count, named_conclusion, comparison}
use Rattle.column_laws.specs.Columns.{ColumnByte, SameButColumns}
use Rattle.definitions.proofs.Lowest.{same_lowest}

-- the length rule
pub length_rule : (s : List ℕ) → sheet_length s ≡ 12 + 4 * sheet.names s + 4 * sheet.propositions s + 20 * sheet.steps s + text_length s + code_length s
unfolding sheet_length code_start text_start steps_start proposition_pairs_start name_pairs_start header_size pair_size step_size
length_rule s = refl

names_inside : (s : List ℕ) (i : ℕ) → i < pair_size * sheet.names s → header_size + i < steps_start s
unfolding steps_start proposition_pairs_start name_pairs_start
names_inside s i l = omega arith

propositions_inside : (s : List ℕ) (i : ℕ) → i < pair_size * sheet.propositions s → header_size + pair_size * sheet.names s + i < steps_start s
unfolding steps_start proposition_pairs_start name_pairs_start
propositions_inside s i l = omega arith

code_after : (s : List ℕ) (i : ℕ) → text_start s ≤ code_start s + i
unfolding code_start
code_after s i = omega arith

module _ (s s' : List ℕ) (w : SameButColumns s s') where
  before_steps : (i : ℕ) → i < steps_start s → get_or s i 0 ≡ get_or s' i 0
  before_steps i l = w.bytes i (λ c. omega (arith, c.after))

  after_steps : (i : ℕ) → text_start s ≤ i → get_or s i 0 ≡ get_or s' i 0
  after_steps i l = w.bytes i (λ c. omega (arith, c.before))

  -- the header lies before the steps
  header_before : header_size ≤ steps_start s
  unfolding steps_start proposition_pairs_start name_pairs_start
  header_before = omega arith

  number_same : (i : ℕ) → i + 1 < header_size → number_at s i ≡ number_at s' i
  unfolding number_at
  number_same i l = rw (before_steps i (omega (arith, header_before)), before_steps (i + 1) (omega (arith, header_before)))

  text_same : text_length s ≡ text_length s'
  unfolding text_length header_size
  text_same = number_same 0 (omega arith)

  names_same : sheet.names s ≡ sheet.names s'
  unfolding sheet.names header_size
  names_same = number_same 2 (omega arith)

  code_same : code_length s ≡ code_length s'
  unfolding code_length header_size
  code_same = number_same 4 (omega arith)

  propositions_same : sheet.propositions s ≡ sheet.propositions s'
  unfolding sheet.propositions header_size
  propositions_same = number_same 6 (omega arith)

  steps_same : sheet.steps s ≡ sheet.steps s'
  unfolding sheet.steps header_size
  steps_same = number_same 8 (omega arith)

  goal_same : sheet.goal s ≡ sheet.goal s'
  unfolding sheet.goal header_size
  goal_same = number_same 10 (omega arith)

  steps_start_same : steps_start s ≡ steps_start s'
  unfolding steps_start proposition_pairs_start name_pairs_start
  steps_start_same = rw (names_same, propositions_same)

  text_start_same : text_start s ≡ text_start s'
  unfolding text_start
  text_start_same = rw (steps_start_same, steps_same)

  code_start_same : code_start s ≡ code_start s'
  unfolding code_start
  code_start_same = rw (text_start_same, text_same)

  -- a part of the sheet without columns
  part_same : (from n : ℕ) → ((i : ℕ) → i < n → get_or s (from + i) 0 ≡ get_or s' (from + i) 0) → take n (drop from s) ≡ take n (drop from s')
  part_same from n same =
      ext_get_or 0 (take n (drop from s)) (take n (drop from s'))
      (rw (length-take n (drop from s), length-take n (drop from s'), length-drop from s, length-drop from s', w.size))
      (λ i l. each i (rw (length-take n (drop from s)) at l))
    where
      each : (i : ℕ) → i < min n (length (drop from s)) → get_or (take n (drop from s)) i 0 ≡ get_or (take n (drop from s')) i 0
      each i l =
          let b : i < n = omega arith in
          rw (get_or-take n (drop from s) i 0 b, get_or-take n (drop from s') i 0 b, get_or-drop from s i 0, get_or-drop from s' i 0) (same i b)

  name_pairs_same : sheet.name_pairs s ≡ sheet.name_pairs s'
  unfolding sheet.name_pairs name_pairs_start
  name_pairs_same =
      part_same header_size (pair_size * sheet.names s) (λ i l. before_steps (header_size + i) (names_inside s i l))
      ∙ ap (λ (n : ℕ). take (pair_size * n) (drop header_size s')) names_same

  proposition_pairs_same : sheet.proposition_pairs s ≡ sheet.proposition_pairs s'
  unfolding sheet.proposition_pairs proposition_pairs_start name_pairs_start
  proposition_pairs_same =
      part_same (header_size + pair_size * sheet.names s) (pair_size * sheet.propositions s)
      (λ i l. before_steps (header_size + pair_size * sheet.names s + i) (propositions_inside s i l))
      ∙ ap₂ (λ (n p : ℕ). take (pair_size * p) (drop (header_size + pair_size * n) s')) names_same propositions_same

  text_bytes_same : text_bytes s ≡ text_bytes s'
  unfolding text_bytes
  text_bytes_same =
      part_same (text_start s) (text_length s) (λ i l. after_steps (text_start s + i) (omega arith))
      ∙ ap₂ (λ (n from : ℕ). take n (drop from s')) text_same text_start_same

  code_bytes_same : code_bytes s ≡ code_bytes s'
  unfolding code_bytes code_start
  code_bytes_same =
      part_same (code_start s) (code_length s) (λ i l. after_steps (code_start s + i) (code_after s i))
      ∙ ap₂ (λ (n from : ℕ). take n (drop from s')) code_same code_start_same

  -- the fields of a record before its column
  abbrev R : List ℕ
  R = sheet.step_records s

  abbrev R' : List ℕ
  R' = sheet.step_records s'

  field : (k i : ℕ) → i < 18 → get_or R (step_size * k + i) 0 ≡ get_or R' (step_size * k + i) 0
  unfolding sheet.step_records step_size text_start
  field k i l = go (dec_lt k (sheet.steps s))
    where
      go : Dec (k < sheet.steps s)
          → get_or (take (20 * sheet.steps s) (drop (steps_start s) s)) (20 * k + i) 0 ≡ get_or (take (20 * sheet.steps s') (drop (steps_start s') s')) (20 * k + i) 0
      go (yes b) =
          rw (← steps_same, ← steps_start_same)
          (get_or-take (20 * sheet.steps s) (drop (steps_start s) s) (20 * k + i) 0 (omega arith)
          ∙ (get_or-drop (steps_start s) s (20 * k + i) 0
          ∙ (w.bytes (steps_start s + (20 * k + i)) (λ c. no_column c)
          ∙ sym (get_or-take (20 * sheet.steps s) (drop (steps_start s) s') (20 * k + i) 0 (omega arith) ∙ get_or-drop (steps_start s) s' (20 * k + i) 0))))
        where
          no_column : ColumnByte s (steps_start s + (20 * k + i)) → ⊥
          no_column c = omega (arith, c.last)
      go (no b) =
          rw (← steps_same, ← steps_start_same)
          (get_or-eq_default (take (20 * sheet.steps s) (drop (steps_start s) s)) 0 (past s)
          ∙ sym (get_or-eq_default (take (20 * sheet.steps s) (drop (steps_start s) s')) 0 (past s')))
        where
          past : (l : List ℕ) → length (take (20 * sheet.steps s) (drop (steps_start s) l)) ≤ 20 * k + i
          past l = rw (length-take (20 * sheet.steps s) (drop (steps_start s) l)) (omega arith)

  field_number : (k at : ℕ) → at + 1 < 18 → step_number R k at ≡ step_number R' k at
  unfolding step_number number_at
  field_number k at l =
      let z : (step_size * k + at) + 1 ≡ step_size * k + (at + 1) = omega arith in
      rw (z, field k at (omega arith), field k (at + 1) l)

  rule_same : (k : ℕ) → rule_byte R k ≡ rule_byte R' k
  unfolding rule_byte
  rule_same k = let z : step_size * k + 0 ≡ step_size * k = omega arith in rw z at (field k 0 (omega arith))

  count_same : (k : ℕ) → premiss_count R k ≡ premiss_count R' k
  unfolding premiss_count
  count_same k = field k 1 (omega arith)

  module _ (n : ℕ) (pairs code : List ℕ) where
    conclusion_same : (k : ℕ) → conclusion_in n pairs code R k ≡ conclusion_in n pairs code R' k
    unfolding conclusion_in identifier_in
    conclusion_same k =
        rw (field_number k 10 (omega arith), field_number k 12 (omega arith), field_number k 14 (omega arith), field_number k 16 (omega arith))

    step_same : (k : ℕ) → step_in n pairs code R k ≡ step_in n pairs code R' k
    unfolding step_in rule_in identifier_in
    step_same k =
        rw (
          rule_same k,
          field_number k 2 (omega arith),
          field_number k 4 (omega arith),
          field_number k 6 (omega arith),
          field_number k 8 (omega arith),
          conclusion_same k,
        )

    trees_same : (k : ℕ) → trees_before n pairs code R k ≡ trees_before n pairs code R' k
    unfolding trees_before step_over
    trees_same zero = refl
    trees_same (suc k) = rw (trees_same k, step_same k, count_same k)

    tree_same : (k : ℕ) → tree_in n pairs code R k ≡ tree_in n pairs code R' k
    unfolding tree_in step_over
    tree_same k = rw (trees_same k, step_same k, count_same k)

    few_same : (k : ℕ) → too_few_trees n pairs code R k ≡ too_few_trees n pairs code R' k
    unfolding too_few_trees
    few_same k = rw (trees_same k, count_same k)

    left_same : (k : ℕ) → trees_left n pairs code R k ≡ trees_left n pairs code R' k
    unfolding trees_left
    left_same k = rw (trees_same k)

    deep_same : (k : ℕ) → deep_tree n pairs code R k ≡ deep_tree n pairs code R' k
    unfolding deep_tree
    deep_same k = rw (tree_same k)

  bad_same : (n p k : ℕ) → k < sheet.steps s → bad_step n p R k ≡ bad_step n p R' k
  unfolding bad_step bad_identifier bad_conclusion bad_prop_is_true bad_type_judgement bad_column identifiers rule_in no_name not_zero
  bad_same n p k l =
      rw (
        rule_same k,
        field_number k 2 (omega arith),
        field_number k 4 (omega arith),
        field_number k 6 (omega arith),
        field_number k 8 (omega arith),
        field_number k 10 (omega arith),
        field_number k 12 (omega arith),
        field_number k 14 (omega arith),
        field_number k 16 (omega arith),
        le-ltb column_limit (column R k) (w.columns k l),
        le-ltb column_limit (column R' k) (w.columns' k l),
      )

  range_same : header_out_of_range s ≡ header_out_of_range s'
  unfolding header_out_of_range
  range_same = rw (text_same, names_same, code_same, propositions_same, steps_same, goal_same)

  length_same : sheet_length s ≡ sheet_length s'
  unfolding sheet_length
  length_same = rw (code_start_same, code_same)

  root_same : root_of s ≡ root_of s'
  unfolding root_of tree_of
  root_same =
      tree_same (sheet.names s) (sheet.proposition_pairs s) (code_bytes s) (sheet.steps s - 1)
      ∙ rw (names_same, proposition_pairs_same, code_bytes_same, steps_same)

  -- the same sheet to refusals 1 to 11, with the same places
  pub same_admitted : admitted s ≡ admitted s'
  unfolding admitted header_checks refuse_lowest
  same_admitted =
      let n = sheet.names s in
      let p = sheet.proposition_pairs s in
      let c = code_bytes s in
      rw (
        same_lowest (bad_step n (sheet.propositions s) R) (bad_step n (sheet.propositions s) R') (sheet.steps s) (λ k l. bad_same n (sheet.propositions s) k l),
        same_lowest (too_few_trees n p c R) (too_few_trees n p c R') (sheet.steps s) (λ k l. few_same n p c k),
        left_same n p c (sheet.steps s),
        same_lowest (deep_tree n p c R) (deep_tree n p c R') (sheet.steps s) (λ k l. deep_same n p c k),
        root_same,
        range_same,
        length_same,
        w.size,
        name_pairs_same,
        text_bytes_same,
        text_same,
        proposition_pairs_same,
        code_bytes_same,
        code_same,
        names_same,
        propositions_same,
        steps_same,
      )

  -- the term over the names' numbers, or the refusal and its place
  pub same_term : sheet_term s ≡ sheet_term s'
  unfolding sheet_term
  same_term = rw same_admitted

  names_as_bytes : name_of s ≡ name_of s'
  unfolding name_of
  names_as_bytes = ap₂ marked name_pairs_same text_bytes_same

  pub same_named_term : named_term s ≡ named_term s'
  unfolding named_term
  same_named_term = rw (same_term, names_as_bytes)

  same_goal : goal_prop s ≡ goal_prop s'
  unfolding goal_prop prop_of
  same_goal = rw (names_as_bytes, names_same, proposition_pairs_same, code_bytes_same, goal_same)

  -- the same text, lists and labels
  pub same_text : (version : ℕ) (style : Style) (room : ℕ) → text_answer s version style room ≡ text_answer s' version style room
  unfolding text_answer sheet_text
  same_text version style room = rw (same_named_term, same_goal)

  pub same_atoms : (room : ℕ) → atoms_answer s room ≡ atoms_answer s' room
  unfolding atoms_answer
  same_atoms room = rw same_term

  pub same_datatypes : (version room : ℕ) → datatypes_answer s version room ≡ datatypes_answer s' version room
  unfolding datatypes_answer
  same_datatypes version room = rw same_term

  pub same_count : label_count s ≡ label_count s'
  unfolding label_count
  same_count = rw same_term

  -- and the same comparisons
  same_conclusion : (k : ℕ) → named_conclusion s k ≡ named_conclusion s' k
  unfolding named_conclusion conclusion_of
  same_conclusion k =
      rw (conclusion_same (sheet.names s) (sheet.proposition_pairs s) (code_bytes s) k, names_as_bytes, names_same, proposition_pairs_same, code_bytes_same)

  pub same_comparison : (i j : ℕ) → comparison s i j ≡ comparison s' i j
  unfolding comparison
  same_comparison i j = rw (same_admitted, steps_same, same_conclusion i, same_conclusion j)
