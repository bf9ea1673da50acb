-- What an accepted sheet gives to the export walk.
use Prim.Native.Nat.{ℕ, ◌*◌, ◌<◌}
use mathlib.Core.Path.{◌≡◌}
use mathlib.Core.List.{List}
use native.Mathlib.Omega.{arith}
use lib.ListN.{length}
use Rattle.definitions.specs.Sheet.{pair_size, names, propositions, steps, step_records, proposition_pairs, code_bytes, code_limit, step_limit, step_size}
use Rattle.definitions.specs.Admission.{bad_code}
use Rattle.steps.specs.Tables.{SizeTable}
use Rattle.proof_term.specs.Records.{record_size}
use Rattle.sheet.specs.Admitted.{Admitted}
use Rattle.sheet.proofs.Slices.{lengths}
use Rattle.sheet.specs.Header.{header_of}
use Rattle.sheet.specs.declared.header.Sheet.{Sheet}
use Rattle.sheet.proofs.Admitted.{AcceptedSheet, has_codes, has_steps}
use Rattle.proof_tree.specs.Exportable.{Coded, Exportable}
use Rattle.proof_tree.specs.Exporting.{RoomFor}
use Rattle.steps.proofs.GoodSteps.{known_rule, known_conclusion}

module _ {s : List ℕ} (a : Admitted s) where
  coded : (i : ℕ) → i < propositions s → Coded (names s) (proposition_pairs s) (code_bytes s) i
  unfolding bad_code pair_size
  coded i h =
      record {
        there = omega (arith, (has_codes a).pairs_within.present);
        decoded = (has_codes a).decoded i h;
      }

  exportable : {sizes : List ℕ} → length sizes ≡ step_limit → SizeTable (step_records s) (steps s) sizes
      → Exportable (names s) (proposition_pairs s) (code_bytes s) (step_records s) sizes (steps s)
  unfolding header_of step_limit code_limit step_size
  exportable l table =
      record {
        good = λ k h.
            let good = a.good_step k h in
            record {
              whole = omega (arith, has_steps a);
              rule = known_rule _ _ _ k good;
              coded = λ p is. coded p ((known_conclusion _ _ _ k good).proposition p is);
              few = omega (arith, a.in_range.steps);
              short = omega (arith, a.in_range.code, (lengths s a.whole).code_bytes);
            };
        table = table;
        sized = omega (arith, a.in_range.steps);
      }

-- Of an accepted sheet:
module _ {s : List ℕ} {h : Sheet} (a : AcceptedSheet s h) where
  -- what the walk asks
  pub ready : {sizes terms : List ℕ} → length sizes ≡ step_limit → length terms ≡ 2 * record_size * step_limit
      → SizeTable (step_records s) (steps s) sizes
      → (Exportable h.names (proposition_pairs s) (code_bytes s) (step_records s) sizes h.steps × (0 < h.steps)) × RoomFor terms (2 * h.steps)
  unfolding header_of step_limit
  ready l m table =
      let range = a.sheet.in_range in
      rw a.header
      ((exportable a.sheet l table, omega (arith, range.some_step)), record { room = omega (arith, range.steps); few = omega (arith, range.steps) })
