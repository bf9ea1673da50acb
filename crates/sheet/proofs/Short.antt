-- A header number that is missing says that the sheet is shorter than its header.
use Prim.Native.Nat.{ℕ, ◌*◌, ◌<◌}
use mathlib.Core.Path.{◌≡◌}
use mathlib.Core.List.{List}
use native.Mathlib.Omega.{arith}
use lib.ListN.{length}
use borrow.Author.Tests.{lt-ltb}
use Rattle.std.specs.Prelude.{None, Err}
use Rattle.definitions.specs.Sheet.{header_size}
use Rattle.definitions.specs.declared.Refusal.{Refusal}
use Rattle.reader.specs.Reading.{number_after}
use Rattle.reader.proofs.Numbers.{missing}
use Rattle.sheet.specs.Header.{header_of}
use Rattle.sheet.specs.Checks.{answered, short_check}
use Rattle.sheet.proofs.Stages.{refused_if, answer_refused}

pub too_short : (s : List ℕ) (k : ℕ) {x : Refusal} → k < 6 → None ≡ number_after s (2 * k) → x ≡ record { number = 1; place = 0 }
    → Err x ≡ answered (header_of s) (short_check s)
unfolding short_check header_size
too_short s k few none is = answer_refused _ (refused_if _ _ (lt-ltb (length s) 12 (omega (arith, missing s (2 * k) none))) is)
