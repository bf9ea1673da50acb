-- Ticket 9: the restated sheet is admitted, and every answer to it is the old sheet's.
use Prim.Native.Nat.{ℕ, zero, suc, ◌+◌, ◌*◌, ◌-◌, ◌≤◌, ◌<◌}
use mathlib.Core.Path.{◌≡◌, refl, ap, ap₂, ◌∙◌}
use mathlib.Core.Bool.{Bool, true, false}
use Rattle.std.specs.Prelude.{None}
use mathlib.Core.List.{List, [], ◌∷◌, ◌++◌}
use native.Mathlib.Omega.{arith}
use native.Mathlib.Numerals.{add-one}
use lib.ListN.{length, get_or, take, drop, length-append, length-drop}
use lib.Seq.{length-take-le}
use lib.Dec.{leb}
use borrow.Author.Tests.{eqb-true, leb-false, ltb-false, le-ltb, lt-leb, eq-eqb, not-false}
use Rattle.definitions.specs.declared.Refusal.{Refusal}
use Rattle.definitions.specs.declared.Style.{Style}
use Rattle.definitions.specs.declared.Style.TheVariants.{Plain}
use Rattle.definitions.specs.Outcome.{Outcome, refused, accepted, ◌>>=◌, refuse_if, lowest}
use Rattle.definitions.specs.Code.{u16}
use Rattle.definitions.specs.Sheet as sheet
use Rattle.definitions.specs.Sheet.{header_size, pair_size, step_size, step_limit, tree_nesting_limit, text_length, code_length, name_pairs_start, proposition_pairs_start, steps_start, text_start, code_start, sheet_length, text_bytes, code_bytes, rule_byte, premiss_count, step_number, column, name_of, number_at, marked}
use Rattle.definitions.specs.Tree.{ProofTree, none, ◌and◌, over, height, count, Step, AlphaEquivalent, rules, rule_in, identifier_count, step_in, step_over, trees_before, tree_in, last_trees, prop_of, conclusion_of, tree_of, root_of}
use Rattle.definitions.specs.Admission.{not_zero, bad_identifier, identifiers, bad_step, too_few_trees, trees_left, deep_tree, admitted}
use Rattle.definitions.specs.Term.{ProofTerm, Unit}
use Rattle.definitions.specs.Export.{Place, checking, inferring, admits, row_of, row, admits_count, places, ending, rule_term, premiss_term, step_term, inferring_term, placed_term, export, export_all}
use Rattle.definitions.specs.Encode.{rule_number, encode_identifier, no_identifier, encode_rule}
use Rattle.definitions.specs.Comparison.{conclusion_alpha_eq}
use Rattle.definitions.specs.Answers.{is_in_room, board_room, names_step, column_of, located, refusal_line, printed, version_of, sheet_term, named_term, goal_prop, sheet_text, text_answer, atoms_answer, datatypes_answer, label_count, named_conclusion, comparison, board_output}
use Rattle.definitions.specs.Assemble.{parts_of}
use Rattle.definitions.specs.Restate.{Given, new_record, with_step, no_step_left, restated_sheet, given_conclusion, bad_given, restated, restate_answer}
use Rattle.definitions.specs.NameIndex.{index_of}
use Rattle.definitions.specs.Refusals.{Meets, is_accepted}
use Rattle.std.proofs.lemmas.Bool.{or_parts}
use Rattle.definitions.proofs.Outcomes.{each_accepted, test_failed}
use Rattle.definitions.proofs.Lowest.{same_lowest, lowest_passed}
use Rattle.definitions.proofs.PrefixCode.{split_number}
use Rattle.definitions.proofs.Refusals.{OfStep, AllSteps, export_meets, refused_kind, after, changed, tested}
use Rattle.writer_laws.specs.Fitting.{Fitting}
use Rattle.writer_laws.specs.Restates.{KeepsParts, SameAnswers, Restates}
use Rattle.writer_laws.proofs.Checks.{Checks, checks_admitted, admitted_checks}
use Rattle.definitions.proofs.Ranges.{HeaderInRange, in_range, range_in}
use Rattle.writer_laws.proofs.Assembling.{text_assembled, names_assembled, code_assembled, propositions_assembled, steps_assembled, goal_assembled, whole_assembled, name_pairs_assembled, proposition_pairs_assembled, step_records_assembled, text_bytes_assembled, code_bytes_assembled, length_assembled}
use Rattle.writer_laws.proofs.Records.{SameStep, same_rule, same_premiss_count, same_number, same_conclusion, same_bad_step, first_row, second_row, first_trees, first_tree}
use Rattle.writer_laws.proofs.Places.{tree_of_first}

-- AlphaEquivalent over one premiss gives its premiss's own outcome, in either place
pub export_alpha : {N : Type 0} (z : Step N) (t : ProofTree N) (m : Place) → z.rule ≡ AlphaEquivalent → export (over z (t and none)) m ≡ export t m
unfolding export export_all count refuse_if ◌>>=◌ placed_term inferring_term step_term premiss_term rule_term admits_count admits places ending row row_of
export_alpha z t checking is = rw is (bound (export t checking))
  where
    bound : {N : Type 0} (o : Outcome (ProofTerm N)) → ((o >>= λ u. accepted (u ∷ [])) >>= λ ts. accepted (get_or ts 0 Unit)) ≡ o
    bound (refused r) = refl
    bound (accepted u) = refl
export_alpha z t inferring is = rw is (bound (export t inferring))
  where
    bound : {N : Type 0} (o : Outcome (ProofTerm N)) → ((o >>= λ u. accepted (u ∷ [])) >>= λ ts. accepted (get_or ts 0 Unit)) ≡ o
    bound (refused r) = refl
    bound (accepted u) = refl

-- one more place at which a test fails
one_more : (test : ℕ → Bool) (places : ℕ) → lowest test places ≡ None → test places ≡ false → lowest test (suc places) ≡ None
one_more test places e f = rw (← add-one places) (lowest_passed test places e f)

-- the parts of a sheet that passes its checks have the lengths that their counts say
length_part : (s : List ℕ) (from n : ℕ) → from + n ≤ length s → length (take n (drop from s)) ≡ n
length_part s from n h = length-take-le n (drop from s) (rw (length-drop from s) (omega arith))

pub fitting : (s : List ℕ) → length s ≡ sheet_length s → Fitting (parts_of s)
unfolding parts_of sheet.name_pairs sheet.proposition_pairs sheet.step_records sheet_length code_start text_start steps_start proposition_pairs_start name_pairs_start
fitting s whole =
    record {
      name_pairs = length_part s (name_pairs_start s) (pair_size * sheet.names s) (omega arith);
      proposition_pairs = length_part s (proposition_pairs_start s) (pair_size * sheet.propositions s) (omega arith);
      step_records = length_part s (steps_start s) (step_size * sheet.steps s) (omega arith);
    }

pub is_whole : (s : List ℕ) → Checks s → length s ≡ sheet_length s
is_whole s c = eqb-true _ _ (not-false _ c.whole)

-- 23 is 9 for the new record
pub new_step_bad : (s : List ℕ) (g : Given) → bad_step (sheet.names s) (sheet.propositions s) (new_record g) 0 ≡ bad_given s g
unfolding bad_step bad_identifier identifiers identifier_count rule_in rules rule_byte step_number number_at not_zero step_size new_record encode_rule encode_identifier no_identifier rule_number u16 bad_given
new_step_bad s g = refl

-- Of an admitted sheet, a conclusion and a column that obey the rules of a step, and room for one more step and level:
module _ (s : List ℕ) (g : Given) (root : ProofTree ℕ) (is_admitted : admitted s ≡ accepted root)
    (good : bad_given s g ≡ false) (room : no_step_left s root ≡ false) where
  old : Checks s
  old = (admitted_checks s root is_admitted).0

  is_root : root ≡ root_of s
  is_root = (admitted_checks s root is_admitted).1

  fit_old : Fitting (parts_of s)
  fit_old = fitting s (is_whole s old)

  -- how long the records are, and that the new step is one more
  records_length : length (sheet.step_records s) ≡ step_size * sheet.steps s
  unfolding parts_of
  records_length = fit_old.step_records

  fit_new : Fitting (with_step (parts_of s) (new_record g))
  unfolding parts_of with_step new_record encode_rule encode_identifier u16 step_size
  fit_new =
      record {
        name_pairs = fit_old.name_pairs;
        proposition_pairs = fit_old.proposition_pairs;
        step_records = length-append (sheet.step_records s) (new_record g) ∙ omega (arith, records_length);
      }

  pub names_kept : sheet.names (restated_sheet s g) ≡ sheet.names s
  unfolding restated_sheet with_step parts_of
  names_kept = names_assembled (with_step (parts_of s) (new_record g))

  pub propositions_kept : sheet.propositions (restated_sheet s g) ≡ sheet.propositions s
  unfolding restated_sheet with_step parts_of
  propositions_kept = propositions_assembled (with_step (parts_of s) (new_record g))

  pub goal_kept : sheet.goal (restated_sheet s g) ≡ sheet.goal s
  unfolding restated_sheet with_step parts_of
  goal_kept = goal_assembled (with_step (parts_of s) (new_record g))

  pub steps_new : sheet.steps (restated_sheet s g) ≡ suc (sheet.steps s)
  unfolding restated_sheet with_step parts_of
  steps_new = steps_assembled (with_step (parts_of s) (new_record g)) ∙ add-one (sheet.steps s)

  pub name_pairs_kept : sheet.name_pairs (restated_sheet s g) ≡ sheet.name_pairs s
  unfolding restated_sheet with_step parts_of
  name_pairs_kept = name_pairs_assembled (with_step (parts_of s) (new_record g)) fit_new

  pub proposition_pairs_kept : sheet.proposition_pairs (restated_sheet s g) ≡ sheet.proposition_pairs s
  unfolding restated_sheet with_step parts_of
  proposition_pairs_kept = proposition_pairs_assembled (with_step (parts_of s) (new_record g)) fit_new

  pub text_bytes_kept : text_bytes (restated_sheet s g) ≡ text_bytes s
  unfolding restated_sheet with_step parts_of
  text_bytes_kept = text_bytes_assembled (with_step (parts_of s) (new_record g)) fit_new

  pub code_bytes_kept : code_bytes (restated_sheet s g) ≡ code_bytes s
  unfolding restated_sheet with_step parts_of
  code_bytes_kept = code_bytes_assembled (with_step (parts_of s) (new_record g)) fit_new

  pub records_new : sheet.step_records (restated_sheet s g) ≡ sheet.step_records s ++ new_record g
  unfolding restated_sheet with_step parts_of
  records_new = step_records_assembled (with_step (parts_of s) (new_record g)) fit_new

  -- the new step among the records
  newest : SameStep (sheet.step_records s ++ new_record g) (sheet.steps s + 0) (new_record g) 0
  newest = second_row (sheet.step_records s) (new_record g) (sheet.steps s) 0 records_length

  last_step : SameStep (sheet.step_records s ++ new_record g) (sheet.steps s) (new_record g) 0
  last_step = let z : sheet.steps s + 0 ≡ sheet.steps s = omega arith in rw z at newest

  earlier : (k : ℕ) → k < sheet.steps s → step_size * (k + 1) ≤ length (sheet.step_records s)
  unfolding step_size
  earlier k h = omega (arith, records_length)

  -- 9: the new record passes
  new_step_good : bad_step (sheet.names s) (sheet.propositions s) (new_record g) 0 ≡ false
  new_step_good = new_step_bad s g ∙ good

  -- the old sheet's steps: at least one, and fewer than the limit
  range : HeaderInRange s
  range = in_range s old.range

  steps_left : sheet.steps s < step_limit
  unfolding no_step_left
  steps_left = leb-false step_limit (sheet.steps s) (or_parts (leb step_limit (sheet.steps s)) (leb tree_nesting_limit (height root)) room).0

  levels_left : height root < tree_nesting_limit
  unfolding no_step_left
  levels_left = leb-false tree_nesting_limit (height root) (or_parts (leb step_limit (sheet.steps s)) (leb tree_nesting_limit (height root)) room).1

  -- the trees before a step of the old sheet, and the old root
  abbrev trees : List ℕ → ℕ → List (ProofTree ℕ)
  trees records k = trees_before (sheet.names s) (sheet.proposition_pairs s) (code_bytes s) records k

  trees_kept : (k : ℕ) → k ≤ sheet.steps s → trees (sheet.step_records s ++ new_record g) k ≡ trees (sheet.step_records s) k
  unfolding step_size
  trees_kept k h =
      first_trees (sheet.names s) (sheet.proposition_pairs s) (code_bytes s) (sheet.step_records s) (new_record g) k (omega (arith, records_length))

  only_tree : (k : ℕ) → 1 ≤ k → length (trees (sheet.step_records s) k) ≤ 1
      → trees (sheet.step_records s) k ≡ tree_in (sheet.names s) (sheet.proposition_pairs s) (code_bytes s) (sheet.step_records s) (k - 1) ∷ []
  unfolding trees_before tree_in
  only_tree zero h e = absurd (omega arith)
  only_tree (suc k) h e =
      let z : suc k - 1 ≡ k = omega arith in
      rw z (ap (λ ts. step_over (sheet.names s) (sheet.proposition_pairs s) (code_bytes s) (sheet.step_records s) k (trees (sheet.step_records s) k) ∷ ts)
      (empty (drop (premiss_count (sheet.step_records s) k) (trees (sheet.step_records s) k)) (omega arith)))
    where
      empty : (l : List (ProofTree ℕ)) → length l ≤ 0 → l ≡ []
      empty [] h = refl
      empty (t ∷ l) h = absurd (omega arith)

  old_trees : trees (sheet.step_records s) (sheet.steps s) ≡ root ∷ []
  unfolding trees_left root_of tree_of
  old_trees = rw is_root (only_tree (sheet.steps s) range.some_step (ltb-false _ _ old.one))

  -- the new root
  pub new_step : Step ℕ
  new_step = step_in (sheet.names s) (sheet.proposition_pairs s) (code_bytes s) (sheet.step_records s ++ new_record g) (sheet.steps s)

  one_premiss : premiss_count (sheet.step_records s ++ new_record g) (sheet.steps s) ≡ 1
  unfolding premiss_count new_record encode_rule step_size
  one_premiss = same_premiss_count last_step

  new_trees : trees (sheet.step_records s ++ new_record g) (suc (sheet.steps s)) ≡ over new_step (root and none) ∷ []
  unfolding trees_before step_over new_step last_trees
  new_trees = rw (one_premiss, trees_kept (sheet.steps s) (omega arith), old_trees)

  new_tree : tree_in (sheet.names s) (sheet.proposition_pairs s) (code_bytes s) (sheet.step_records s ++ new_record g) (sheet.steps s) ≡ over new_step (root and none)
  unfolding tree_in step_over new_step last_trees
  new_tree = rw (one_premiss, trees_kept (sheet.steps s) (omega arith), old_trees)

  new_height : height (over new_step (root and none)) ≡ 1 + height root
  unfolding height
  new_height = omega arith

  -- the lengths of the text and the code
  length_text : length (text_bytes s) ≡ text_length s
  unfolding text_bytes sheet_length code_start
  length_text = let whole = is_whole s old in length_part s (text_start s) (text_length s) (omega arith)

  length_code : length (code_bytes s) ≡ code_length s
  unfolding code_bytes sheet_length
  length_code = let whole = is_whole s old in length_part s (code_start s) (code_length s) (omega arith)

  new_text_length : text_length (restated_sheet s g) ≡ text_length s
  unfolding restated_sheet with_step parts_of
  new_text_length = text_assembled (with_step (parts_of s) (new_record g)) ∙ length_text

  new_code_length : code_length (restated_sheet s g) ≡ code_length s
  unfolding restated_sheet with_step parts_of
  new_code_length = code_assembled (with_step (parts_of s) (new_record g)) ∙ length_code

  new_whole : length (restated_sheet s g) ≡ sheet_length (restated_sheet s g)
  unfolding restated_sheet
  new_whole = length_assembled (with_step (parts_of s) (new_record g)) fit_new

  new_header : header_size ≤ length (restated_sheet s g)
  unfolding restated_sheet
  new_header = omega (arith, whole_assembled (with_step (parts_of s) (new_record g)))

  new_range : HeaderInRange (restated_sheet s g)
  new_range =
      record {
        text = rw new_text_length range.text;
        names = rw names_kept range.names;
        code = rw new_code_length range.code;
        some_proposition = rw propositions_kept range.some_proposition;
        propositions = rw propositions_kept range.propositions;
        some_step = rw steps_new (omega arith);
        steps = rw steps_new steps_left;
        goal = rw (goal_kept, propositions_kept) range.goal;
      }

  abbrev few : List ℕ → ℕ → Bool
  few records k = too_few_trees (sheet.names s) (sheet.proposition_pairs s) (code_bytes s) records k

  abbrev deep : List ℕ → ℕ → Bool
  deep records k = deep_tree (sheet.names s) (sheet.proposition_pairs s) (code_bytes s) records k

  few_kept : (k : ℕ) → k < sheet.steps s → few (sheet.step_records s ++ new_record g) k ≡ few (sheet.step_records s) k
  unfolding too_few_trees
  few_kept k h = rw (trees_kept k (omega arith), same_premiss_count (first_row (sheet.step_records s) (new_record g) k (earlier k h)))

  few_last : few (sheet.step_records s ++ new_record g) (sheet.steps s) ≡ false
  unfolding too_few_trees
  few_last = rw (trees_kept (sheet.steps s) (omega arith), old_trees, one_premiss)

  deep_kept : (k : ℕ) → k < sheet.steps s → deep (sheet.step_records s ++ new_record g) k ≡ deep (sheet.step_records s) k
  unfolding deep_tree
  deep_kept k h =
      rw (first_tree (sheet.names s) (sheet.proposition_pairs s) (code_bytes s) (sheet.step_records s) (new_record g) k (earlier k h))

  deep_last : deep (sheet.step_records s ++ new_record g) (sheet.steps s) ≡ false
  unfolding deep_tree
  deep_last =
      rw new_tree (le-ltb tree_nesting_limit (height (over new_step (root and none))) (omega (arith, new_height, levels_left)))

  -- the new sheet passes its checks
  pub new_checks : Checks (restated_sheet s g)
  unfolding trees_left
  new_checks =
      record {
        header = le-ltb _ _ new_header;
        range = range_in (restated_sheet s g) new_range;
        whole = rw (eq-eqb _ _ new_whole);
        good_name_pairs = rw (name_pairs_kept, names_kept, new_text_length) old.good_name_pairs;
        named = rw (name_pairs_kept, names_kept, text_bytes_kept) old.named;
        good_proposition_pairs = rw (proposition_pairs_kept, propositions_kept, new_code_length) old.good_proposition_pairs;
        codes = rw (names_kept, proposition_pairs_kept, propositions_kept, code_bytes_kept) old.codes;
        shallow = rw (names_kept, proposition_pairs_kept, propositions_kept, code_bytes_kept) old.shallow;
        fields =
            rw (names_kept, propositions_kept, records_new, steps_new)
            (one_more _ (sheet.steps s)
            (same_lowest _ _ (sheet.steps s)
            (λ k l. same_bad_step (first_row (sheet.step_records s) (new_record g) k (earlier k l)) (sheet.names s) (sheet.propositions s))
            ∙ old.fields)
            (same_bad_step last_step (sheet.names s) (sheet.propositions s) ∙ new_step_good));
        enough =
            rw (names_kept, proposition_pairs_kept, code_bytes_kept, records_new, steps_new)
            (one_more (few (sheet.step_records s ++ new_record g)) (sheet.steps s)
            (same_lowest (few (sheet.step_records s ++ new_record g)) (few (sheet.step_records s)) (sheet.steps s) few_kept ∙ old.enough) few_last);
        one = rw (names_kept, proposition_pairs_kept, code_bytes_kept, records_new, steps_new, new_trees);
        nested =
            rw (names_kept, proposition_pairs_kept, code_bytes_kept, records_new, steps_new)
            (one_more (deep (sheet.step_records s ++ new_record g)) (sheet.steps s)
            (same_lowest (deep (sheet.step_records s ++ new_record g)) (deep (sheet.step_records s)) (sheet.steps s) deep_kept ∙ old.nested) deep_last);
      }

  -- its root is AlphaEquivalent over the old root
  new_root : root_of (restated_sheet s g) ≡ over new_step (root and none)
  unfolding root_of tree_of
  new_root =
      let z : suc (sheet.steps s) - 1 ≡ sheet.steps s = omega arith in
      rw (names_kept, proposition_pairs_kept, code_bytes_kept, records_new, steps_new, z) new_tree

  -- the new sheet is admitted
  pub new_admitted : admitted (restated_sheet s g) ≡ accepted (over new_step (root and none))
  new_admitted = checks_admitted (restated_sheet s g) new_checks ∙ ap accepted new_root

  is_alpha : new_step.rule ≡ AlphaEquivalent
  unfolding new_step step_in rule_in rules rule_byte new_record encode_rule rule_number step_size
  is_alpha = same_rule last_step

  -- its term, or its refusal with its place, is the old sheet's
  pub same_term : sheet_term (restated_sheet s g) ≡ sheet_term s
  unfolding sheet_term ◌>>=◌
  same_term = rw (new_admitted, is_admitted) (export_alpha new_step root checking is_alpha)

  pub same_names : name_of (restated_sheet s g) ≡ name_of s
  unfolding name_of
  same_names = ap₂ marked name_pairs_kept text_bytes_kept

  pub same_named_term : named_term (restated_sheet s g) ≡ named_term s
  unfolding named_term
  same_named_term = rw (same_term, same_names)

  pub same_goal : goal_prop (restated_sheet s g) ≡ goal_prop s
  unfolding goal_prop prop_of
  same_goal = rw (goal_kept, same_names, names_kept, proposition_pairs_kept, code_bytes_kept)

  -- the columns of the old steps are kept, so a refusal of export has the same column
  kept_column : (k : ℕ) → k < sheet.steps s → column (sheet.step_records (restated_sheet s g)) k ≡ column (sheet.step_records s) k
  unfolding column step_size
  kept_column k h = rw records_new (same_number (first_row (sheet.step_records s) (new_record g) k (earlier k h)) 18 (omega arith))

  abbrev SameColumn : Refusal → Type 0
  SameColumn r = located (restated_sheet s g) r ≡ located s r

  step_column : (k : ℕ) → k < sheet.steps s → OfStep SameColumn k
  unfolding located column_of
  step_column k h number b = rw (kept_column k h)

  root_columns : AllSteps (OfStep SameColumn) root
  unfolding root_of tree_of
  root_columns =
      rw is_root
      (tree_of_first (OfStep SameColumn) (sheet.names s) (sheet.proposition_pairs s) (code_bytes s) (sheet.step_records s) (sheet.steps s) step_column
      (sheet.steps s - 1) (omega (arith, range.some_step)))

  term_columns : Meets SameColumn (sheet_term s)
  unfolding sheet_term ◌>>=◌
  term_columns = rw is_admitted (export_meets SameColumn root checking root_columns)

  pub same_columns : (r : Refusal) → sheet_term s ≡ refused r → located (restated_sheet s g) r ≡ located s r
  same_columns r e = refused_kind term_columns e

  -- the texts, the lists, the count and the board's output are the old sheet's, refusals 12 to 16 included
  pub same_text : (version : ℕ) (style : Style) (room : ℕ) → text_answer (restated_sheet s g) version style room ≡ text_answer s version style room
  unfolding text_answer sheet_text
  same_text version style room = rw (same_named_term, same_goal)

  pub same_atoms : (room : ℕ) → atoms_answer (restated_sheet s g) room ≡ atoms_answer s room
  unfolding atoms_answer
  same_atoms room = rw same_term

  pub same_datatypes : (version room : ℕ) → datatypes_answer (restated_sheet s g) version room ≡ datatypes_answer s version room
  unfolding datatypes_answer
  same_datatypes version room = rw same_term

  pub same_count : label_count (restated_sheet s g) ≡ label_count s
  unfolding label_count
  same_count = rw same_term

  text_columns : Meets SameColumn (text_answer s 1 Plain board_room)
  unfolding text_answer version_of ◌>>=◌ is_in_room sheet_text named_term located column_of names_step
  text_columns = after (changed _ (changed _ term_columns)) λ a. after (tested _ 16 0 refl) λ _. is_accepted

  pub same_output : board_output (restated_sheet s g) ≡ board_output s
  unfolding board_output printed
  same_output = rw (same_text 1 Plain board_room) (go (text_answer s 1 Plain board_room) text_columns)
    where
      go : (o : Outcome (List ℕ)) → Meets SameColumn o → printed (restated_sheet s g) o ≡ printed s o
      go (accepted a) h = refl
      go (refused r) h = ap refusal_line (refused_kind h refl)

  -- the index of its names is the old one's
  pub same_index : index_of (restated_sheet s g) ≡ index_of s
  unfolding index_of
  same_index = rw (same_names, names_kept)

  -- the old steps conclude what they did
  kept_conclusion : (k : ℕ) → k < sheet.steps s → named_conclusion (restated_sheet s g) k ≡ named_conclusion s k
  unfolding named_conclusion conclusion_of
  kept_conclusion k h =
      rw (
        same_names,
        names_kept,
        proposition_pairs_kept,
        code_bytes_kept,
        records_new,
        same_conclusion (first_row (sheet.step_records s) (new_record g) k (earlier k h)) (sheet.names s) (sheet.proposition_pairs s) (code_bytes s),
      )

  pub same_comparison : (i j : ℕ) → i < sheet.steps s → j < sheet.steps s → comparison (restated_sheet s g) i j ≡ comparison s i j
  unfolding comparison ◌>>=◌
  same_comparison i j h k =
      rw (
        new_admitted,
        is_admitted,
        steps_new,
        kept_conclusion i h,
        kept_conclusion j k,
        lt-leb (suc (sheet.steps s)) i (omega arith),
        lt-leb (suc (sheet.steps s)) j (omega arith),
        lt-leb (sheet.steps s) i h,
        lt-leb (sheet.steps s) j k,
      )

  -- the new step concludes what is given, in the given column
  pub new_conclusion : named_conclusion (restated_sheet s g) (sheet.steps s) ≡ given_conclusion s g
  unfolding named_conclusion conclusion_of given_conclusion
  new_conclusion =
      rw (
        same_names,
        names_kept,
        proposition_pairs_kept,
        code_bytes_kept,
        records_new,
        same_conclusion last_step (sheet.names s) (sheet.proposition_pairs s) (code_bytes s),
      )

  pub new_column : column (sheet.step_records (restated_sheet s g)) (sheet.steps s) ≡ g.column
  unfolding column step_size step_number number_at new_record encode_rule encode_identifier u16
  new_column = rw records_new (same_number last_step 18 (omega arith) ∙ split_number g.column)

  -- it is alpha equal to the old root's, where the comparison says so
  pub alpha_equal : conclusion_alpha_eq (named_conclusion s (sheet.steps s - 1)) (given_conclusion s g) ≡ accepted true
      → comparison (restated_sheet s g) (sheet.steps s - 1) (sheet.steps s) ≡ accepted true
  unfolding comparison ◌>>=◌ refuse_if
  alpha_equal e =
      rw (
        new_admitted,
        steps_new,
        kept_conclusion (sheet.steps s - 1) (omega (arith, range.some_step)),
        new_conclusion,
        lt-leb (suc (sheet.steps s)) (sheet.steps s - 1) (omega arith),
        lt-leb (suc (sheet.steps s)) (sheet.steps s) (omega arith),
        e,
      )

  keeps_parts : KeepsParts s g (restated_sheet s g)
  keeps_parts =
      record {
        same_names = names_kept;
        same_propositions = propositions_kept;
        same_goal = goal_kept;
        one_step_more = steps_new;
        same_name_pairs = name_pairs_kept;
        same_proposition_pairs = proposition_pairs_kept;
        one_record_more = records_new;
        same_text_bytes = text_bytes_kept;
        same_code_bytes = code_bytes_kept;
      }

  same_answers : SameAnswers s (restated_sheet s g)
  same_answers =
      record {
        same_term = same_term;
        same_named_term = same_named_term;
        same_text = same_text;
        same_atoms = same_atoms;
        same_datatypes = same_datatypes;
        same_count = same_count;
        same_comparison = same_comparison;
        same_columns = same_columns;
        same_output = same_output;
        same_index = same_index;
      }

  restates_sheet : conclusion_alpha_eq (named_conclusion s (sheet.steps s - 1)) (given_conclusion s g) ≡ accepted true → Restates s g (restated_sheet s g)
  restates_sheet equal =
      record {
        parts = keeps_parts;
        answers = same_answers;
        root =
            record {
              old_root = root;
              new_step = new_step;
              old = is_admitted;
              new = new_admitted;
              rule = is_alpha;
              conclusion = new_conclusion;
              column_given = new_column;
              alpha_equal = alpha_equal equal;
            };
      }

-- what is accepted restates the old sheet
pub restates : (s : List ℕ) (g : Given) (a : List ℕ) → restated s g ≡ accepted a → Restates s g a
unfolding restated
restates s g a e =
    let (root, is_root, e) = each_accepted _ _ e in
    let (_, good, e) = each_accepted _ _ e in
    let (_, room, e) = each_accepted _ _ e in
    let (same, equal, e) = each_accepted _ _ e in
    let (_, alike, e) = each_accepted _ _ e in
    let is_same : same ≡ true = not-false _ (test_failed _ _ _ alike) in
    let is : restated_sheet s g ≡ a = cc in
    rw is at (restates_sheet s g root is_root (test_failed _ _ _ good) (test_failed _ _ _ room) (equal ∙ ap accepted is_same))

pub answer_restates : (s : List ℕ) (g : Given) (room : ℕ) (a : List ℕ) → restate_answer s g room ≡ accepted a → Restates s g a
unfolding restate_answer is_in_room
answer_restates s g room a e =
    let (b, is, e) = each_accepted _ _ e in
    let (_, _, e) = each_accepted _ _ e in
    let same : b ≡ a = cc in
    restates s g a (is ∙ ap accepted same)
