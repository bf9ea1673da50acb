-- Refusals 1 to 11 taken apart: a sheet is admitted just where each check passes.
use Prim.Native.Nat.{ℕ}
use mathlib.Core.Path.{◌≡◌}
use mathlib.Core.Bool.{false, not}
use Rattle.std.specs.Prelude.{None}
use mathlib.Core.List.{List}
use lib.ListN.{length}
use lib.Dec.{ltb, eqb}
use Rattle.definitions.specs.Outcome.{accepted, ◌>>=◌, refuse_if, refuse_at, refuse_lowest, lowest}
use Rattle.definitions.specs.Sheet.{header_size, text_length, names, code_length, propositions, steps, header_out_of_range, sheet_length, name_pairs, proposition_pairs, step_records, text_bytes, code_bytes}
use Rattle.definitions.specs.Tree.{ProofTree, root_of}
use Rattle.definitions.proofs.Outcomes.{each_accepted, test_failed, none_lowest}
use Rattle.definitions.specs.Admission.{bad_name_pair, bad_name, bad_proposition_pair, bad_code, deep_proposition, bad_step, too_few_trees, trees_left, deep_tree, header_checks, admitted}

-- each check of a sheet passes
pub record Checks (s : List ℕ) : Type 0 where
  pub header : ltb (length s) header_size ≡ false
  pub range : header_out_of_range s ≡ false
  pub whole : not (eqb (length s) (sheet_length s)) ≡ false
  pub good_name_pairs : lowest (bad_name_pair (name_pairs s) (text_length s)) (names s) ≡ None
  pub named : lowest (bad_name (name_pairs s) (text_bytes s)) (names s) ≡ None
  pub good_proposition_pairs : lowest (bad_proposition_pair (proposition_pairs s) (code_length s)) (propositions s) ≡ None
  pub codes : lowest (bad_code (names s) (proposition_pairs s) (code_bytes s)) (propositions s) ≡ None
  pub shallow : lowest (deep_proposition (names s) (proposition_pairs s) (code_bytes s)) (propositions s) ≡ None
  pub fields : lowest (bad_step (names s) (propositions s) (step_records s)) (steps s) ≡ None
  pub enough : lowest (too_few_trees (names s) (proposition_pairs s) (code_bytes s) (step_records s)) (steps s) ≡ None
  pub one : trees_left (names s) (proposition_pairs s) (code_bytes s) (step_records s) (steps s) ≡ false
  pub nested : lowest (deep_tree (names s) (proposition_pairs s) (code_bytes s) (step_records s)) (steps s) ≡ None

pub checks_admitted : (s : List ℕ) → Checks s → admitted s ≡ accepted (root_of s)
unfolding admitted header_checks refuse_if refuse_lowest refuse_at ◌>>=◌
checks_admitted s c =
    rw (c.header, c.range, c.whole, c.good_name_pairs, c.named, c.good_proposition_pairs, c.codes, c.shallow, c.fields, c.enough, c.one, c.nested)

pub admitted_checks : (s : List ℕ) (root : ProofTree ℕ) → admitted s ≡ accepted root → Checks s × (root ≡ root_of s)
unfolding admitted header_checks
admitted_checks s root e =
    let (_, first, e) = each_accepted _ _ e in
    let (_, header, after_header) = each_accepted _ _ first in
    let (_, range, whole) = each_accepted _ _ after_header in
    let (_, good_name_pairs, e) = each_accepted _ _ e in
    let (_, named, e) = each_accepted _ _ e in
    let (_, good_proposition_pairs, e) = each_accepted _ _ e in
    let (_, codes, e) = each_accepted _ _ e in
    let (_, shallow, e) = each_accepted _ _ e in
    let (_, fields, e) = each_accepted _ _ e in
    let (_, enough, e) = each_accepted _ _ e in
    let (_, one, e) = each_accepted _ _ e in
    let (_, nested, e) = each_accepted _ _ e in (
      record {
        header = test_failed _ _ _ header;
        range = test_failed _ _ _ range;
        whole = test_failed _ _ _ whole;
        good_name_pairs = none_lowest _ _ _ good_name_pairs;
        named = none_lowest _ _ _ named;
        good_proposition_pairs = none_lowest _ _ _ good_proposition_pairs;
        codes = none_lowest _ _ _ codes;
        shallow = none_lowest _ _ _ shallow;
        fields = none_lowest _ _ _ fields;
        enough = none_lowest _ _ _ enough;
        one = test_failed _ _ _ one;
        nested = none_lowest _ _ _ nested;
      },
      cc,
    )
