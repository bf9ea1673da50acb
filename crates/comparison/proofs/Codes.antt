-- In an accepted sheet the code of a proposition stands at its pair's offset.
use Prim.Native.Nat.{ℕ, ◌+◌, ◌*◌, ◌<◌, ◌≤◌}
use mathlib.Core.Path.{◌≡◌}
use mathlib.Core.List.{List}
use native.Mathlib.Omega.{arith}
use lib.ListN.{length}
use Rattle.std.specs.Prelude.{Bool, Result}
use Rattle.definitions.specs.declared.Refusal.{Refusal}
use Rattle.definitions.specs.Sheet.{pair_size, step_size, pair_offset, marked, names, propositions, steps, name_pairs, text_bytes, proposition_pairs, step_records, code_bytes, name_of}
use Rattle.definitions.specs.Tree.{prop_of}
use Rattle.definitions.specs.Admission.{bad_code}
use Rattle.definitions.specs.Comparison.{alpha_eq}
use Rattle.prefix_code.specs.Scan.{proposition_coding}
use Rattle.prefix_code.proofs.Reading.{standing}
use Rattle.steps.specs.Records.{HasStep}
use Rattle.sheet.specs.declared.header.Sheet.{Sheet}
use Rattle.sheet.specs.Header.{header_of}
use Rattle.sheet.specs.Admitted.{Accepted}
use Rattle.sheet.proofs.Admitted.{code_of_bytes, has_codes, has_steps, names_within}
use Rattle.alpha_eq.specs.Comparing.{Standing, Two, TwoPropositions, Decides}
use Rattle.sheet.specs.Checks.{outcome_of}
use Rattle.comparison.specs.Conclusions.{named_prop}

-- the header's step count is the sheet's
its_steps : (s : List ℕ) {h : Sheet} → h ≡ header_of s → h.steps ≡ steps s
unfolding header_of
its_steps s is = rw is

pub has_step : (s : List ℕ) {h : Sheet} {k : ℕ} → h ≡ header_of s → k < h.steps → k < steps s
has_step s is below = rw (its_steps s is) at below

pub has_no_step : (s : List ℕ) {h : Sheet} {k : ℕ} → h ≡ header_of s → h.steps ≤ k → steps s ≤ k
has_no_step s is past = rw (its_steps s is) at past

module _ {s : List ℕ} (a : Accepted s) where
  pub step_there : {k : ℕ} → k < steps s → HasStep (step_records s) k
  unfolding step_size
  step_there below = omega (arith, has_steps a.sheet)

  pub proposition_pair : {p : ℕ} → p < propositions s → pair_size * (p + 1) ≤ length (proposition_pairs s)
  unfolding pair_size
  proposition_pair below = omega (arith, (has_codes a.sheet).pairs_within.present)

  -- a proposition stands where its pair says
  proposition_stands : {p : ℕ} → p < propositions s → Standing proposition_coding (names s) (code_bytes s) (pair_offset (proposition_pairs s) p)
  unfolding bad_code prop_of
  proposition_stands {p} below =
      let there = standing (names s) (proposition_pairs s) (code_bytes s) p (code_of_bytes s a.bytes) ((has_codes a.sheet).decoded p below) in
      record { value = prop_of s p; rest = there.rest; stands = there.stands }

  module _ {p q : ℕ} (left : p < propositions s) (right : q < propositions s) where
    two : Two proposition_coding (code_bytes s) (pair_offset (proposition_pairs s) p) (pair_offset (proposition_pairs s) q) (names s)
    two = record { left = proposition_stands left; right = proposition_stands right }

    pub two_admitted : TwoPropositions (code_bytes s) (pair_offset (proposition_pairs s) p) (pair_offset (proposition_pairs s) q) (name_pairs s) (text_bytes s)
    unfolding two proposition_stands
    two_admitted =
        record {
          names = names s;
          two = two;
          named = λ n below. names_within a.sheet below;
          shallow = a.sheet.shallow_proposition p left;
        }

    pub two_decided : {r : Result Bool Refusal}
        → Decides (code_bytes s) (pair_offset (proposition_pairs s) p) (pair_offset (proposition_pairs s) q) (marked (name_pairs s) (text_bytes s)) r
        → outcome_of r ≡ alpha_eq (named_prop s p) (named_prop s q)
    unfolding named_prop name_of two proposition_stands
    two_decided decided = decided.answer (names s) two
