-- The answer of the checks is a sheet, all of whose steps' trees are sized, or a refusal.
use mathlib.Core.Path.{◌≡◌, refl, sym}
use native.Mathlib.Omega.{arith}
use borrow.Author.Rules.{rules}
use Rattle.std.specs.Prelude.{Err}
use Rattle.sheet.proofs.Admitted.{accepted_sheet, refused_sheet, accepted_sizes, its_header, without_header}
use Rattle.sheet.proofs.admitted_sheet.AdmittedSheet.with_sizes.Goals as goal

pub returns-in_err-header-clause-admits : goal.returns-in_err-header-clause-admits
returns-in_err-header-clause-admits c =
    let is : c.from_residual.result ≡ Err c.in_err-header.field-0.0 = search rules in rw is (refused_sheet _ (sym c.in_err-header.ensures.value))

pub invariant_of-sheet-clause-headed : goal.invariant_of-sheet-clause-headed
invariant_of-sheet-clause-headed c = its_header (accepted_sheet _ (sym c.in_ok-header.ensures.value))

pub invariant_of-sheet-clause-fits : goal.invariant_of-sheet-clause-fits
invariant_of-sheet-clause-fits c = λ i. omega (arith, c.type_inv.bytes i)

pub invariant_of-result : goal.invariant_of-result
invariant_of-result c = without_header (λ i. omega (arith, c.type_inv.bytes i)) (accepted_sheet _ (sym c.in_ok-header.ensures.value))

pub returns-clause-admits : goal.returns-clause-admits
returns-clause-admits c = (refl, without_header (λ i. omega (arith, c.type_inv.bytes i)) (accepted_sheet _ (sym c.in_ok-header.ensures.value)))

pub returns-clause-sized : goal.returns-clause-sized
returns-clause-sized c = accepted_sizes _ (sym c.in_ok-header.ensures.value) c.in_ok-header.ensures.sized
