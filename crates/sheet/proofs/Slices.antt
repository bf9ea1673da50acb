-- How long each part is of a sheet's bytes that are as many as its header says.
use Prim.Native.Nat.{ℕ, ◌*◌}
use mathlib.Core.Path.{◌≡◌}
use mathlib.Core.List.{List}
use native.Mathlib.Omega.{arith}
use lib.ListN.{length, length-take, length-drop}
use Rattle.definitions.specs.Sheet.{pair_size, step_size, text_length, names, code_length, propositions, steps, name_pairs_start, proposition_pairs_start, steps_start, text_start, code_start, sheet_length, name_pairs, proposition_pairs, step_records, text_bytes, code_bytes}

-- how many bytes each part has
pub record Lengths (s : List ℕ) : Type 0 where
  pub name_pairs : length (name_pairs s) ≡ pair_size * names s
  pub proposition_pairs : length (proposition_pairs s) ≡ pair_size * propositions s
  pub step_records : length (step_records s) ≡ step_size * steps s
  pub text_bytes : length (text_bytes s) ≡ text_length s
  pub code_bytes : length (code_bytes s) ≡ code_length s

pub lengths : (s : List ℕ) → length s ≡ sheet_length s → Lengths s
unfolding name_pairs proposition_pairs step_records text_bytes code_bytes name_pairs_start proposition_pairs_start steps_start text_start code_start sheet_length
lengths s whole =
    record {
      name_pairs = simp (length-take, length-drop) (omega arith);
      proposition_pairs = simp (length-take, length-drop) (omega arith);
      step_records = simp (length-take, length-drop) (omega arith);
      text_bytes = simp (length-take, length-drop) (omega arith);
      code_bytes = simp (length-take, length-drop) (omega arith);
    }
