-- The scan ends where the bytes end exactly if they decode.
use mathlib.Core.Path.{◌∙◌}
use native.Mathlib.Omega.{arith}
use Rattle.prefix_code.proofs.Whole.{scanned_whole}
use Rattle.prefix_code.proofs.is_code.Goals as goal

pub returns : goal.returns
returns c = c.eq.ensures ∙ scanned_whole _ _ (λ i. omega (arith, c.type_inv.code i)) _ c.scan.ensures
