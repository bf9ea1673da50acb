-- The sizes of the trees are filled in first; the other two refusals read them.
use Prim.Native.Nat.{ℕ, ◌-◌, ◌≤◌}
use mathlib.Core.Path.{◌≡◌, sym, ◌∙◌}
use mathlib.Core.Bool.{Bool}
use mathlib.Core.List.{List}
use native.Mathlib.Omega.{arith}
use lib.ListN.{length}
use lib.Dec.{ltb}
use borrow.Author.Rules.{rules}
use Rattle.std.specs.Prelude.{Option, None, ℕ}
use Rattle.definitions.specs.Outcome.{accepted, lowest, refuse_if, refuse_lowest}
use Rattle.definitions.specs.Sheet.{step_limit, tree_nesting_limit, names, steps, proposition_pairs, step_records, code_bytes}
use Rattle.definitions.specs.Tree.{height, tree_in}
use Rattle.definitions.specs.Admission.{too_few_trees, trees_left, deep_tree}
use Rattle.steps.specs.Tables.{SizeTable, FilledSizes, passed}
use Rattle.sheet.specs.declared.header.Sheet.{Sheet}
use Rattle.sheet.specs.Header.{header_of}
use Rattle.sheet.specs.Checks.{tree_checks}
use Rattle.sheet.specs.Sizes.{steps_finding_trees, Sized}
use Rattle.sheet.proofs.Searched.{fits, searched, no_place}
use Rattle.sheet.proofs.Given.{steps_present, steps_fit}
use Rattle.sheet.proofs.Stages.{refused_if, not_refused_if, stops, stopped, passes}
use Rattle.sheet.proofs.parts.HeadedSheet.check_trees.Goals as goal
use Rattle.sheet.proofs.parts.HeadedSheet.check_trees.Goals.{After-fill_sizes, After-first_deep_tree, After-leaves_trees, Else-leaves_trees, In_ok-refuse_at}

-- What holds of the step records and the steps as the program has them holds of the sheet's.
module _ (s : List ℕ) {records : List ℕ} {h : Sheet} (same : records ≡ step_records s) (header : h ≡ header_of s) where
  filled_of : {before after : List ℕ} {r : Option ℕ} → FilledSizes records h.steps before r after
      → FilledSizes (step_records s) (steps s) before r after
  unfolding header_of
  filled_of f = rw (same, header) at f

  table_of : {t : List ℕ} → SizeTable (step_records s) (steps s) t → SizeTable records h.steps t
  unfolding header_of
  table_of t = rw (same, header) t

  left-of : {left : Bool} → left ≡ trees_left (names s) (proposition_pairs s) (code_bytes s) records h.steps
      → trees_left (names s) (proposition_pairs s) (code_bytes s) (step_records s) (steps s) ≡ left
  unfolding header_of
  left-of e = sym (rw (same, header) at e)

  deep_of : {r : Option ℕ}
      → r ≡ (lowest (λ k. ltb 256 (height (tree_in (names s) (proposition_pairs s) (code_bytes s) records k))) h.steps)
      → r ≡ (lowest (deep_tree (names s) (proposition_pairs s) (code_bytes s) (step_records s)) (steps s))
  unfolding header_of deep_tree tree_nesting_limit
  deep_of e = rw (same, header) at e

-- What the filled table is.
module _ (s : List ℕ) {before after : List ℕ} {r : Option ℕ} (f : FilledSizes (step_records s) (steps s) before r after) where
  sized_of : Sized s (steps_finding_trees s) before after
  unfolding steps_finding_trees
  sized_of =
      let search = f.found (names s) (proposition_pairs s) (code_bytes s) in
      record { table = rw search at f.table; kept = rw search at f.kept }

  all_of : r ≡ None → SizeTable (step_records s) (steps s) after
  unfolding passed
  all_of e = rw e at f.table

abbrev sheet : After-fill_sizes → List ℕ
sheet c = c.args.self.now.bytes.now

abbrev sheet_filled : In_ok-refuse_at → List ℕ
sheet_filled c = sheet (goal.at.In_ok-refuse_at c).After-fill_sizes

-- the table after it was filled
abbrev table : After-fill_sizes → List ℕ
table c = c.fill_sizes.new.sizes

filled : (c : After-fill_sizes)
    → FilledSizes (step_records (sheet c)) (steps (sheet c)) c.args.sizes.now c.fill_sizes.result (table c)
filled c = filled_of _ c.step_records-records.ensures c.args.self.now.headed.header c.fill_sizes.ensures

tree_search : (c : After-fill_sizes) →
    let s = sheet c in
    c.fill_sizes.result
    ≡ (lowest (too_few_trees (names s) (proposition_pairs s) (code_bytes s) (step_records s)) (steps s))
tree_search c = (filled c).found _ _ _

sized : (c : After-fill_sizes) → Sized (sheet c) (steps_finding_trees (sheet c)) c.args.sizes.now (table c)
sized c = sized_of _ (filled c)

trees_passed : (c : In_ok-refuse_at) →
    let s = sheet_filled c in
    accepted c.in_ok-refuse_at.field-0 ≡ refuse_lowest (too_few_trees (names s) (proposition_pairs s) (code_bytes s) (step_records s)) (steps s) 10
trees_passed c = searched _ _ (tree_search (goal.at.In_ok-refuse_at c).After-fill_sizes) 10 c.in_ok-refuse_at.ensures

size_table : (c : In_ok-refuse_at)
    → SizeTable (step_records (sheet_filled c)) (steps (sheet_filled c)) (table (goal.at.In_ok-refuse_at c).After-fill_sizes)
size_table c = all_of _ (filled (goal.at.In_ok-refuse_at c).After-fill_sizes) (no_place _ 10 c.in_ok-refuse_at.ensures)

-- the table as it was filled, over the steps as the program has them
program_table : (c : In_ok-refuse_at) →
    SizeTable c.step_records-records.result.now c.args.self.now.header.steps (table (goal.at.In_ok-refuse_at c).After-fill_sizes)
program_table c =
    table_of _ c.step_records-records.ensures c.args.self.now.headed.header (size_table c)

table_long_enough : (c : In_ok-refuse_at) →
    c.args.self.now.header.steps ≤ length (table (goal.at.In_ok-refuse_at c).After-fill_sizes)
unfolding step_limit
table_long_enough c =
    omega (arith, c.args.self.now.headed.in_range.steps, c.fill_sizes.auto.sizes)

trees_test : (c : After-leaves_trees) →
    let s = sheet_filled (goal.at.After-leaves_trees c).In_ok-refuse_at in
    trees_left (names s) (proposition_pairs s) (code_bytes s) (step_records s) (steps s) ≡ c.leaves_trees.result
trees_test c =
    left-of _ c.step_records-records.ensures c.args.self.now.headed.header (c.leaves_trees.ensures _ _ _)

one_left : (c : Else-leaves_trees) →
    let s = sheet_filled (goal.at.Else-leaves_trees c).In_ok-refuse_at in
    accepted tt ≡ refuse_if (trees_left (names s) (proposition_pairs s) (code_bytes s) (step_records s) (steps s)) 10 (steps s - 1)
one_left c = not_refused_if _ _ (trees_test (goal.at.Else-leaves_trees c).After-leaves_trees ∙ c.if-leaves_trees.false)

height_search : (c : After-first_deep_tree) →
    let s = sheet_filled (goal.at.After-first_deep_tree c).In_ok-refuse_at in
    c.first_deep_tree.result
    ≡ (lowest (deep_tree (names s) (proposition_pairs s) (code_bytes s) (step_records s)) (steps s))
height_search c =
    deep_of _ c.step_records-records.ensures c.args.self.now.headed.header
    (c.first_deep_tree.ensures.found _ _ _)

pub fill_sizes-requires : goal.fill_sizes-requires
unfolding step_limit
fill_sizes-requires c =
    rw c.step_records-records.ensures (
      steps_present c.args.self.now.headed,
      c.args.self.now.headed.in_range.steps,
      omega (arith, c.args.self.now.headed.in_range.steps),
    )

pub refuse_at-requires : goal.refuse_at-requires
refuse_at-requires c = fits _ _ (tree_search (goal.at.refuse_at-requires c).After-fill_sizes) (steps_fit c.args.self.now.headed)

pub returns-in_err-refuse_at : goal.returns-in_err-refuse_at
unfolding tree_checks
returns-in_err-refuse_at c =
    let filled_at = (goal.at.returns-in_err-refuse_at c).After-fill_sizes in
    let same : c.from_residual.result ≡ c.refuse_at.result = search rules in
    record {
      value = rw same (searched _ _ (tree_search filled_at) 10 c.refuse_at.ensures
          ∙ stopped _ (searched _ _ (tree_search filled_at) 10 c.in_err-refuse_at.ensures));
      sized = sized filled_at;
    }

pub invariant_of-sized : goal.invariant_of-sized
unfolding step_limit
invariant_of-sized c =
    let passed = (goal.at.invariant_of-sized c).In_ok-refuse_at in
    let has = c.args.self.now.headed in
    record {
      sized = record {
        has_steps = rw c.step_records-records.ensures (steps_present has);
        few = has.in_range.steps;
        within = table_long_enough passed;
        sizes = program_table passed;
      };
    }

pub leaves_trees-requires : goal.leaves_trees-requires
leaves_trees-requires c =
    let passed = (goal.at.leaves_trees-requires c).In_ok-refuse_at in
    (c.args.self.now.headed.in_range.some_step, table_long_enough passed, program_table passed)

pub returns-then-leaves_trees : goal.returns-then-leaves_trees
unfolding tree_checks header_of
returns-then-leaves_trees c =
    let at = goal.at.returns-then-leaves_trees c in
    record {
      value = passes _ (trees_passed at.In_ok-refuse_at)
          (stops _ (refused_if _ _ (trees_test at.After-leaves_trees ∙ c.if-leaves_trees.true) (rw c.args.self.now.headed.header at c.at.ensures)));
      sized = sized at.After-fill_sizes;
    }

pub refuse_at-requires-2 : goal.refuse_at-requires-2
refuse_at-requires-2 c = fits _ _ (height_search (goal.at.refuse_at-requires-2 c).After-first_deep_tree) (steps_fit c.args.self.now.headed)

pub returns : goal.returns
unfolding tree_checks
returns c =
    let at = goal.at.returns c in
    record {
      value = passes _ (trees_passed at.In_ok-refuse_at)
          (passes _ (one_left at.Else-leaves_trees) (searched _ _ (height_search at.After-first_deep_tree) 11 c.refuse_at-2.ensures));
      sized = sized at.After-fill_sizes;
    }
