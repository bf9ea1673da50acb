-- Refusals 1 to 11: which bytes are a sheet. Document 01, "Refusals in checking order".
use Rattle.std.specs.Prelude.{ℕ, ◌+◌, ◌-◌, Bool, true, false, ◌||◌, not, cond, List, length, ltb, leb, eqb, Option, None, Some}
use Rattle.definitions.specs.Outcome.{Outcome, accepted, ◌>>=◌, refuse_if, refuse_lowest}
use Rattle.definitions.specs.Name.{is_name}
use Rattle.definitions.specs.Prop.{nesting}
use Rattle.definitions.specs.Code.{decode}
use Rattle.definitions.specs.Sheet.{header_size, name_length_limit, proposition_nesting_limit, tree_nesting_limit, column_limit, pair_offset, pair_length, pair_end, last_end, marked, rule_byte, premiss_count, step_number, column, text_length, names, code_length, propositions, steps, header_out_of_range, sheet_length, name_pairs, proposition_pairs, step_records, text_bytes, code_bytes}
use Rattle.definitions.specs.Tree.{ProofTree, height, rules, rule_in, identifier_count, prop_in, trees_before, tree_in, root_of}

-- a pair starts before the last one's end, or ends past that many bytes
unfoldable pub misplaced : List ℕ → ℕ → ℕ → Bool
misplaced pairs bytes i = ltb (pair_offset pairs i) (last_end pairs i) || ltb bytes (pair_end pairs i)

-- 4: a name's pair starts before the last one's end, ends past T, or has a length outside 1 to 32
unfoldable pub bad_name_pair : List ℕ → ℕ → ℕ → Bool
bad_name_pair pairs bytes i =
    misplaced pairs bytes i || (ltb (pair_length pairs i) 1 || ltb name_length_limit (pair_length pairs i))

-- 5: a name holds a byte its position does not allow
unfoldable pub bad_name : List ℕ → List ℕ → ℕ → Bool
bad_name pairs text i = not (is_name (marked pairs text i))

-- 6: a proposition's pair starts before the last one's end, ends past C, or has length 0
unfoldable pub bad_proposition_pair : List ℕ → ℕ → ℕ → Bool
bad_proposition_pair pairs bytes i = misplaced pairs bytes i || eqb (pair_length pairs i) 0

unfoldable pub is_none : {A : Type 0} → Option A → Bool
is_none None = true
is_none (Some a) = false

-- 7: a proposition's code is not exactly one proposition over its whole length with names below N
unfoldable pub bad_code : ℕ → List ℕ → List ℕ → ℕ → Bool
bad_code names pairs code i = is_none (decode names (marked pairs code i))

-- 8: a proposition nests deeper than 64
unfoldable pub deep_proposition : ℕ → List ℕ → List ℕ → ℕ → Bool
deep_proposition names pairs code i = ltb proposition_nesting_limit (nesting (prop_in names pairs code i))

-- 9: a step's rule, kind, name, proposition number or column is out of range, or an unused field is not 0
module _ (names propositions : ℕ) (records : List ℕ) where
  unfoldable pub no_name : ℕ → ℕ → Bool
  no_name k at = leb names (step_number records k at)

  unfoldable pub not_zero : ℕ → ℕ → Bool
  not_zero k at = not (eqb (step_number records k at) 0)

  -- the identifier at an offset, of a step whose rule has it, or lacks it
  unfoldable pub bad_identifier : ℕ → ℕ → Bool → Bool
  bad_identifier k at has = cond has (no_name k at) (not_zero k at || not_zero k (at + 2))

  unfoldable pub bad_prop_is_true : ℕ → Bool
  bad_prop_is_true k = leb propositions (step_number records k 12) || (not_zero k 14 || not_zero k 16)

  unfoldable pub bad_type_judgement : ℕ → Bool
  bad_type_judgement k = no_name k 12 || no_name k 16

  unfoldable pub bad_conclusion : ℕ → Bool
  bad_conclusion k =
      cond (eqb (step_number records k 10) 0) (bad_prop_is_true k)
      (cond (eqb (step_number records k 10) 1) (bad_type_judgement k) true)

  unfoldable pub bad_column : ℕ → Bool
  bad_column k = ltb column_limit (column records k)

  unfoldable pub identifiers : ℕ → ℕ
  identifiers k = identifier_count (rule_in records k)

  unfoldable pub bad_step : ℕ → Bool
  bad_step k =
      leb (length rules) (rule_byte records k)
      || (bad_identifier k 2 (leb 1 (identifiers k)) || (bad_identifier k 6 (leb 2 (identifiers k)) || (bad_conclusion k || bad_column k)))

module _ (names : ℕ) (pairs code records : List ℕ) where
  -- 10: a step finds too few trees before it, or the last step leaves more than one tree
  unfoldable pub too_few_trees : ℕ → Bool
  too_few_trees k = ltb (length (trees_before names pairs code records k)) (premiss_count records k)

  unfoldable pub trees_left : ℕ → Bool
  trees_left steps = ltb 1 (length (trees_before names pairs code records steps))

  -- 11: a step's tree nests deeper than 256
  unfoldable pub deep_tree : ℕ → Bool
  deep_tree k = ltb tree_nesting_limit (height (tree_in names pairs code records k))

-- 1 to 3: the bytes are fewer than a header's, a header number is out of range, or the length is not the header's
unfoldable pub header_checks : List ℕ → Outcome (Unit {0})
header_checks s = do
  _ ← refuse_if (ltb (length s) header_size) 1 0
  _ ← refuse_if (header_out_of_range s) 2 0
  refuse_if (not (eqb (length s) (sheet_length s))) 3 0

-- the tree of an admitted sheet's root, or the first of refusals 1 to 11
unfoldable pub admitted : List ℕ → Outcome (ProofTree ℕ)
admitted s =
    let n = names s in
    let pairs = proposition_pairs s in
    let code = code_bytes s in
    let records = step_records s in
    do
      _ ← header_checks s
      _ ← refuse_lowest (bad_name_pair (name_pairs s) (text_length s)) n 4
      _ ← refuse_lowest (bad_name (name_pairs s) (text_bytes s)) n 5
      _ ← refuse_lowest (bad_proposition_pair pairs (code_length s)) (propositions s) 6
      _ ← refuse_lowest (bad_code n pairs code) (propositions s) 7
      _ ← refuse_lowest (deep_proposition n pairs code) (propositions s) 8
      _ ← refuse_lowest (bad_step n (propositions s) records) (steps s) 9
      _ ← refuse_lowest (too_few_trees n pairs code records) (steps s) 10
      _ ← refuse_if (trees_left n pairs code records (steps s)) 10 (steps s - 1)
      _ ← refuse_lowest (deep_tree n pairs code records) (steps s) 11
      accepted (root_of s)
