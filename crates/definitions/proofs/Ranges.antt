-- A header that is not out of range has each number in its range, and the other way round.
use Prim.Native.Nat.{ℕ, ◌≤◌, ◌<◌}
use mathlib.Core.Path.{◌≡◌}
use mathlib.Core.Bool.{false}
use mathlib.Core.List.{List}
use borrow.Author.Tests.{ltb-false, leb-false, le-ltb, lt-leb}
use Rattle.std.proofs.lemmas.Bool.{or_parts}
use Rattle.definitions.specs.Sheet as sheet
use Rattle.definitions.specs.Sheet.{text_limit, name_limit, code_limit, proposition_limit, step_limit, header_out_of_range}

-- each header number lies in its range
pub record InRange (text_length name_count code_length proposition_count step_count goal_number : ℕ) : Type 0 where
  pub text : text_length ≤ text_limit
  pub names : name_count ≤ name_limit
  pub code : code_length ≤ code_limit
  pub some_proposition : 1 ≤ proposition_count
  pub propositions : proposition_count ≤ proposition_limit
  pub some_step : 1 ≤ step_count
  pub steps : step_count ≤ step_limit
  pub goal : goal_number < proposition_count

module _ (s : List ℕ) where
  -- each of these bytes' header does
  abbrev pub HeaderInRange : Type 0
  HeaderInRange = InRange (sheet.text_length s) (sheet.names s) (sheet.code_length s) (sheet.propositions s) (sheet.steps s) (sheet.goal s)

  pub in_range : header_out_of_range s ≡ false → HeaderInRange
  unfolding header_out_of_range
  in_range e =
      let (rest, goal) = or_parts _ _ e in
      let (rest, steps) = or_parts _ _ rest in
      let (rest, propositions) = or_parts _ _ rest in
      let (rest, code) = or_parts _ _ rest in
      let (text, names) = or_parts _ _ rest in
      let (no-proposition, propositions) = or_parts _ _ propositions in
      let (no_step, steps) = or_parts _ _ steps in
      record {
        text = ltb-false _ _ text;
        names = ltb-false _ _ names;
        code = ltb-false _ _ code;
        some_proposition = ltb-false _ _ no-proposition;
        propositions = ltb-false _ _ propositions;
        some_step = ltb-false _ _ no_step;
        steps = ltb-false _ _ steps;
        goal = leb-false _ _ goal;
      }

  pub range_in : HeaderInRange → header_out_of_range s ≡ false
  unfolding header_out_of_range
  range_in r =
      rw (
        le-ltb text_limit (sheet.text_length s) r.text,
        le-ltb name_limit (sheet.names s) r.names,
        le-ltb code_limit (sheet.code_length s) r.code,
        le-ltb (sheet.propositions s) 1 r.some_proposition,
        le-ltb proposition_limit (sheet.propositions s) r.propositions,
        le-ltb (sheet.steps s) 1 r.some_step,
        le-ltb step_limit (sheet.steps s) r.steps,
        lt-leb (sheet.propositions s) (sheet.goal s) r.goal,
      )
