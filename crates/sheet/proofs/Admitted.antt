-- What the answer of the checks gives to the layers above.
use Prim.Native.Nat.{ℕ, zero, suc, ◌-◌, ◌≤◌, ◌<◌}
use mathlib.Core.Path.{◌≡◌, refl, ap, ◌∙◌}
use mathlib.Core.Bool.{true, false}
use Rattle.std.specs.Prelude.{Option, None, Some, unwrap_or, Ok, Err}
use mathlib.Core.List.{List, [], ◌∷◌}
use native.Mathlib.Omega.{arith}
use lib.ListN.{length, drop}
use borrow.Author.Tests.{ltb-false, not-false}
use Rattle.definitions.specs.declared.Refusal.{Refusal}
use Rattle.definitions.specs.Name.{is_name}
use Rattle.definitions.specs.Prop.{nesting}
use Rattle.definitions.specs.Code.{decode}
use Rattle.definitions.specs.Outcome.{refused, accepted}
use Rattle.definitions.specs.Sheet.{pair_size, code_length, code_start, names, propositions, steps, name_pairs, text_bytes, proposition_pairs, step_records, code_bytes, name_of, marked, premiss_count, proposition_nesting_limit, tree_nesting_limit}
use Rattle.definitions.specs.Tree.{ProofTree, height, trees_before, tree_in, prop_in, prop_of, tree_of, root_of}
use Rattle.definitions.specs.Admission.{is_none, bad_name, bad_code, deep_proposition, too_few_trees, trees_left, deep_tree, admitted}
use Rattle.definitions.proofs.PrefixCode.{Bytes}
use Rattle.identifier.specs.Pairs.{PairsWithin}
use Rattle.prefix_code.proofs.Reading.{part_bytes}
use Rattle.steps.specs.Records.{HasSteps}
use Rattle.steps.specs.Tables.{SizeTable, passed}
use Rattle.sheet.specs.declared.header.Sheet.{Sheet}
use Rattle.sheet.specs.Header.{header_of, InRange, HasHeader}
use Rattle.sheet.specs.Pairs.{HasPairs, HasCodes}
use Rattle.sheet.specs.Checks.{checked_of, tree_checks}
use Rattle.sheet.specs.Sizes.{steps_finding_trees, unless_refused, sized_steps, Sized}
use Rattle.sheet.specs.Admitted.{Admitted, Accepted}
use Rattle.definitions.proofs.Outcomes.{each_accepted, test_failed, none_lowest}
use Rattle.definitions.proofs.Lowest.{all_fail}
use Rattle.number.specs.Pairs.{NameWithin}
use Rattle.sheet.proofs.Given.{good_pairs, pair_within, good_name_pair, good_proposition_pair}
use Rattle.sheet.proofs.Stages.{stage_accepted, stage_refuses}
use Rattle.sheet.proofs.Order.{from_names, from_propositions, from_steps, from_trees, in_stages, header_given}
use Rattle.sheet.proofs.Slices.{lengths}

is_some : {A : Type 0} (o : Option A) (d : A) → is_none o ≡ false → o ≡ Some (unwrap_or o d)
unfolding is_none
is_some None d e = absurd (grind arith)
is_some (Some a) d e = refl

empty : {A : Type 0} (l : List A) → length l ≤ 0 → l ≡ []
empty [] h = refl
empty (a ∷ l) h = absurd (omega arith)

-- where no more than one tree is left, it is that of the last step
only_root : (names : ℕ) (pairs code records : List ℕ) (count : ℕ) → 1 ≤ count
    → trees_left names pairs code records count ≡ false
    → trees_before names pairs code records count ≡ tree_in names pairs code records (count - 1) ∷ []
unfolding trees_left trees_before tree_in
only_root names pairs code records zero h e = absurd (omega arith)
only_root names pairs code records (suc k) h e =
    let rest = drop (premiss_count records k) (trees_before names pairs code records k) in
    let none_left : length rest ≤ 0 = omega (arith, ltb-false) in
    let last : suc k - 1 ≡ k = omega arith in
    rw (empty rest none_left, last)

-- What each test says that fails.
module _ (s : List ℕ) (i : ℕ) where
  is_name_lem : bad_name (name_pairs s) (text_bytes s) i ≡ false → is_name (name_of s i) ≡ true
  unfolding bad_name name_of
  is_name_lem e = not-false _ e

  is_proposition : bad_code (names s) (proposition_pairs s) (code_bytes s) i ≡ false
      → decode (names s) (marked (proposition_pairs s) (code_bytes s) i) ≡ Some (prop_of s i)
  unfolding bad_code prop_of prop_in
  is_proposition e = is_some _ _ e

  nests_at_most : deep_proposition (names s) (proposition_pairs s) (code_bytes s) i ≡ false
      → nesting (prop_of s i) ≤ proposition_nesting_limit
  unfolding deep_proposition prop_of
  nests_at_most e = ltb-false _ _ e

  finds_trees : too_few_trees (names s) (proposition_pairs s) (code_bytes s) (step_records s) i ≡ false
      → premiss_count (step_records s) i ≤ length (trees_before (names s) (proposition_pairs s) (code_bytes s) (step_records s) i)
  unfolding too_few_trees
  finds_trees e = ltb-false _ _ e

  is_low_lem : deep_tree (names s) (proposition_pairs s) (code_bytes s) (step_records s) i ≡ false
      → height (tree_of s i) ≤ tree_nesting_limit
  unfolding deep_tree tree_of
  is_low_lem e = ltb-false _ _ e

last_tree : (s : List ℕ) → InRange (header_of s)
    → trees_left (names s) (proposition_pairs s) (code_bytes s) (step_records s) (steps s) ≡ false
    → trees_before (names s) (proposition_pairs s) (code_bytes s) (step_records s) (steps s) ≡ root_of s ∷ []
unfolding header_of root_of tree_of
last_tree s r e = only_root _ _ _ _ (steps s) r.some_step e

-- the root is the last step's tree, and the sheet is one that refusals 1 to 11 let pass
admission : (s : List ℕ) {root : ProofTree ℕ} → admitted s ≡ accepted root → (root ≡ root_of s) × Admitted s
unfolding admitted
admission s e =
    let (_, header, e) = each_accepted _ _ e in
    let given = header_given s refl header in
    let (_, four, e) = each_accepted _ _ e in
    let (_, five, e) = each_accepted _ _ e in
    let (_, six, e) = each_accepted _ _ e in
    let (_, seven, e) = each_accepted _ _ e in
    let (_, eight, e) = each_accepted _ _ e in
    let (_, nine, e) = each_accepted _ _ e in
    let (_, ten, e) = each_accepted _ _ e in
    let (_, last, e) = each_accepted _ _ e in
    let (_, eleven, e) = each_accepted _ _ e in (
      cc,
      record {
        in_range = given.in_range;
        whole = given.whole;
        name_pair = λ i h. good_name_pair s i (all_fail _ _ (none_lowest _ _ _ four) i h);
        name = λ i h. is_name_lem s i (all_fail _ _ (none_lowest _ _ _ five) i h);
        proposition_pair = λ i h. good_proposition_pair s i (all_fail _ _ (none_lowest _ _ _ six) i h);
        decoded = λ i h. is_proposition s i (all_fail _ _ (none_lowest _ _ _ seven) i h);
        shallow_proposition = λ i h. nests_at_most s i (all_fail _ _ (none_lowest _ _ _ eight) i h);
        good_step = all_fail _ _ (none_lowest _ _ _ nine);
        enough_trees = λ k h. finds_trees s k (all_fail _ _ (none_lowest _ _ _ ten) k h);
        one_tree = last_tree s given.in_range (test_failed _ _ _ last);
        shallow_tree = λ k h. is_low_lem s k (all_fail _ _ (none_lowest _ _ _ eleven) k h);
      },
    )

module _ (s : List ℕ) where
  pub admitted_root : {root : ProofTree ℕ} → admitted s ≡ accepted root → root ≡ root_of s
  admitted_root e = (admission s e).0

  pub admitted_sheet : {root : ProofTree ℕ} → admitted s ≡ accepted root → Admitted s
  admitted_sheet e = (admission s e).1

-- an accepted sheet: its header, its root and what refusals 1 to 11 have shown
pub record AcceptedSheet (s : List ℕ) (h : Sheet) : Type 0 where
  pub header : h ≡ header_of s
  pub root : admitted s ≡ accepted (root_of s)
  pub sheet : Admitted s

pub accepted_sheet : (s : List ℕ) {h : Sheet} → checked_of s ≡ Ok h → AcceptedSheet s h
unfolding checked_of
accepted_sheet s {h} e =
    let (same, root, passed) = stage_accepted _ (admitted s) refl e in
    record {
      header = same;
      root = passed ∙ ap accepted (admitted_root s passed);
      sheet = admitted_sheet s passed;
    }

pub refused_sheet : (s : List ℕ) {x : Refusal} → checked_of s ≡ Err x → admitted s ≡ refused x
unfolding checked_of
refused_sheet s e = stage_refuses _ _ refl e

-- where no stage refuses, every step's tree is sized
all_sized : (s : List ℕ) {h : Sheet} → checked_of s ≡ Ok h → sized_steps s ≡ steps s
unfolding checked_of from_names from_propositions from_steps from_trees tree_checks sized_steps unless_refused steps_finding_trees passed
all_sized s e =
    let (_, _, whole) = stage_accepted _ (admitted s) refl e in
    let (_, header, e) = each_accepted _ _ (in_stages s ∙ whole) in
    let (_, names, e) = each_accepted _ _ e in
    let (_, propositions, e) = each_accepted _ _ e in
    let (_, steps, e) = each_accepted _ _ e in
    let (_, trees, e) = each_accepted _ _ e in
    let (_, ten, e) = each_accepted _ _ trees in
    rw (header, names, propositions, steps, none_lowest _ _ _ ten)

-- so the table of an accepted sheet has all the sizes
pub accepted_sizes : (s : List ℕ) {h : Sheet} {before after : List ℕ} → checked_of s ≡ Ok h
    → Sized s (sized_steps s) before after → SizeTable (step_records s) (steps s) after
accepted_sizes s e sized = rw (all_sized s e) at sized.table

-- the code of a sheet of bytes is bytes
pub code_of_bytes : (s : List ℕ) → Bytes s → Bytes (code_bytes s)
unfolding code_bytes
code_of_bytes s bytes = part_bytes (code_length s) (code_start s) s bytes

-- What the functions over the parts of an accepted sheet ask.
module _ {s : List ℕ} (a : Admitted s) where
  pub has_header : HasHeader s (header_of s)
  has_header = record { header = refl; in_range = a.in_range; whole = a.whole }

  pub has_names : HasPairs (name_pairs s) (text_bytes s) (names s)
  has_names = good_pairs (lengths s a.whole).name_pairs (lengths s a.whole).text_bytes a.name_pair

  pub has_codes : HasCodes (names s) (proposition_pairs s) (code_bytes s) (propositions s)
  unfolding bad_code is_none
  has_codes =
      record {
        pairs_within =
            good_pairs (lengths s a.whole).proposition_pairs (lengths s a.whole).code_bytes a.proposition_pair;
        decoded = λ i h. rw (a.decoded i h);
      }

  pub has_steps : HasSteps (step_records s) (steps s)
  has_steps = omega (arith, (lengths s a.whole).step_records)

  -- a search among the names before one of them
  pub names_within : {i : ℕ} → i < names s → PairsWithin (name_pairs s) (text_bytes s) i
  unfolding pair_size
  names_within h = record { present = omega (arith, has_names.present); ends = λ j l. has_names.ends j (omega arith) }

  -- the name of one of them
  pub name_within : (i : ℕ) → i < names s → NameWithin (name_pairs s) (text_bytes s) i
  name_within i h = pair_within has_names h

pub its_header : {s : List ℕ} {h : Sheet} → AcceptedSheet s h → HasHeader s h
its_header a = rw a.header (has_header a.sheet)

-- an accepted sheet without and with its header
pub without_header : {s : List ℕ} {h : Sheet} → Bytes s → AcceptedSheet s h → Accepted s
without_header bytes a = record { bytes = bytes; root = a.root; sheet = a.sheet }

pub with_header : {s : List ℕ} → Accepted s → AcceptedSheet s (header_of s)
with_header a = record { header = refl; root = a.root; sheet = a.sheet }

pub beside_header : {s : List ℕ} {h : Sheet} → h ≡ header_of s → Accepted s → AcceptedSheet s h
beside_header is a = record { header = is; root = a.root; sheet = a.sheet }
