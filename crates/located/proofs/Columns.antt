-- The records of bytes with a header hold every step; the column of a step that is not there is 0.
use Prim.Native.Nat.{ℕ, ◌+◌, ◌*◌, ◌≤◌, ◌<◌}
use mathlib.Core.Path.{sym, ◌≡◌, ap, ◌∙◌}
use mathlib.Core.Bool.{Bool, true, false}
use mathlib.Core.List.{List}
use native.Mathlib.Omega.{arith}
use borrow.Author.Tests.{le-ltb}
use lib.ListN.{length, get_or-eq_default}
use Rattle.definitions.specs.declared.Refusal.{Refusal}
use Rattle.definitions.specs.Answers.{names_step, column_of, located}
use Rattle.definitions.specs.Sheet.{header_size, step_size, number_at, step_number, column, steps, name_pairs_start, proposition_pairs_start, steps_start, text_start, code_start, sheet_length, step_records}
use Rattle.steps.specs.Records.{HasStep}
use Rattle.sheet.specs.declared.header.Sheet.{Sheet}
use Rattle.std.specs.Prelude.{Result, Ok, Some, None, is_some, unwrap_or, ℕ}
use Rattle.std.specs.Result.{result_ok}
use Rattle.sheet.specs.Header.{header_of, HasHeader}
use Rattle.sheet.specs.Checks.{answered, short_check}
use Rattle.sheet.proofs.Slices.{lengths}
use Rattle.sheet.proofs.Stages.{not_refused_if}

pub no_column : (records : List ℕ) (k : ℕ) → length records ≤ step_size * k → column records k ≡ 0
unfolding column step_number number_at
no_column records k h =
    let low = get_or-eq_default records 0 {n = step_size * k + 18} (omega arith) in
    let high = get_or-eq_default records 0 {n = step_size * k + 18 + 1} (omega arith) in
    omega (arith, low, high)

-- a refusal that names a step, with that step's column
pub with_column : (s : List ℕ) (r : Refusal) {n : ℕ} → names_step r ≡ true → n ≡ column (step_records s) r.place
    → record { refusal = r; column = n } ≡ located s r
unfolding located column_of
with_column s r names is = rw (names, is)

-- Of bytes with a header:
module _ {s : List ℕ} (has : HasHeader s (header_of s)) where
  whole_header : header_size ≤ length s
  unfolding sheet_length code_start text_start steps_start proposition_pairs_start name_pairs_start
  whole_header = omega (arith, has.whole)

  -- reading it finds no byte missing
  pub header_accepted : {r : Result Sheet Refusal} → r ≡ answered (header_of s) (short_check s) → r ≡ Ok (header_of s)
  unfolding answered short_check
  header_accepted e = e ∙ ap (answered (header_of s)) (sym (not_refused_if 1 0 (le-ltb _ _ whole_header)))

  module _ {r : Result Sheet Refusal} (read : r ≡ answered (header_of s) (short_check s)) where
    pub header_some : {h : Sheet} → Some h ≡ result_ok r → h ≡ header_of s
    header_some {h} given = ap (λ o. unwrap_or o h) (given ∙ ap result_ok (header_accepted read))

    pub not_none : None ≡ result_ok r → ⊥
    not_none given =
        let z : ◌≡◌ {A = Bool} false true = ap is_some (given ∙ ap result_ok (header_accepted read)) in
        grind arith

  -- the header as it was read
  module _ {h : Sheet} (is : h ≡ header_of s) where
    pub read_header : HasHeader s h
    read_header = rw is has

    read_steps : h.steps ≡ steps s
    unfolding header_of
    read_steps = ap (λ (h : Sheet). h.steps) is

    module _ (k : ℕ) where
      pub no_step : h.steps ≤ k → column (step_records s) k ≡ 0
      unfolding step_size
      no_step past = no_column (step_records s) k (omega (arith, read_steps, (lengths s has.whole).step_records))

      pub has_step : k < h.steps → HasStep (step_records s) k
      unfolding step_size
      has_step below = omega (arith, read_steps, (lengths s has.whole).step_records)
