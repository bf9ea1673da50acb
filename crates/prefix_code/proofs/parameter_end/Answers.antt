-- Three bytes and a name below `names` are asked of any parameter, two bytes more of an instantiated one.
use native.Mathlib.Omega.{arith}
use Rattle.prefix_code.specs.Scan.{parameter_coding}
use Rattle.prefix_code.proofs.Runs.{ends_at}
use Rattle.prefix_code.proofs.Parameters.{parameter_bytes, no_parameter, kind_stands, kind_bytes}
use Rattle.prefix_code.proofs.parameter_end.Goals as goal

pub returns : goal.returns
returns c =
    rw c.size-size.ensures
    (ends_at (parameter_coding _) _ _ _ (omega arith) (omega (arith, c.size-size.ensures))
    (λ p rest s. (kind_bytes _ (parameter_bytes _ _ _ p rest s) _ c.in_ok-of_byte.ensures).1)
    (kind_stands _ _ _ (λ i. omega (arith, c.type_inv.code i)) (omega arith) _ c.in_ok-of_byte.ensures (omega (arith, c.size-size.ensures))))

pub returns-then-code-at-lt3 : goal.returns-then-code-at-lt3
returns-then-code-at-lt3 c = no_parameter _ _ _ (λ p rest b. omega arith)

pub returns-then-names-number_at : goal.returns-then-names-number_at
returns-then-names-number_at c = no_parameter _ _ _ (λ p rest b. omega arith)

pub returns-in_err-of_byte : goal.returns-in_err-of_byte
returns-in_err-of_byte c = rw c.from_residual.ensures (no_parameter _ _ _ (λ p rest b. omega (arith, c.in_err-of_byte.ensures)))

pub returns-then-code-at : goal.returns-then-code-at
returns-then-code-at c =
    no_parameter _ _ _ (λ p rest b. omega (arith, (kind_bytes _ b _ c.in_ok-of_byte.ensures).0, c.size-size.ensures))
