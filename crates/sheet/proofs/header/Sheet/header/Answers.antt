-- Six numbers that are there are the header's.
use Prim.Native.Nat.{ℕ}
use mathlib.Core.Path.{◌≡◌}
use mathlib.Core.List.{List}
use native.Mathlib.Omega.{arith}
use lib.ListN.{length}
use borrow.Author.Tests.{le-ltb}
use Rattle.std.specs.Prelude.{Some, Ok}
use Rattle.definitions.specs.Sheet.{header_size, text_length, names, code_length, propositions, steps, goal}
use Rattle.reader.specs.Reading.{number_after}
use Rattle.reader.proofs.Numbers.{there}
use Rattle.sheet.specs.Header.{header_of}
use Rattle.sheet.specs.Checks.{answered, short_check}
use Rattle.sheet.proofs.Stages.{not_refused_if, answer_accepted}
use Rattle.sheet.proofs.header.Sheet.header.Goals as goals

read : (s : List ℕ) {t n c p k g : ℕ} → Some t ≡ number_after s 0 → Some n ≡ number_after s 2 → Some c ≡ number_after s 4
    → Some p ≡ number_after s 6 → Some k ≡ number_after s 8 → Some g ≡ number_after s 10
    → Ok (record { text_length = t; names = n; code_length = c; propositions = p; steps = k; goal = g })
    ≡ answered (header_of s) (short_check s)
unfolding header_of header_size short_check text_length names code_length propositions steps goal
read s t n c p k g =
    simp ((there s 0 t).is, (there s 2 n).is, (there s 4 c).is, (there s 6 p).is, (there s 8 k).is, (there s 10 g).is)
    (answer_accepted _ (cc) (not_refused_if _ _ (le-ltb (length s) 12 (omega (arith, (there s 10 g).before)))))

pub returns : goals.returns
returns c =
    read _ c.in_ok-header_field.ensures c.in_ok-header_field-2.ensures c.in_ok-header_field-3.ensures c.in_ok-header_field-4.ensures
    c.in_ok-header_field-5.ensures c.in_ok-header_field-6.ensures
