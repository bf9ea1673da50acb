-- By the byte in front.
use native.Mathlib.Omega.{arith}
use Rattle.prefix_code.specs.Head.{head_coding}
use Rattle.prefix_code.proofs.Runs.{ends_at}
use Rattle.prefix_code.proofs.Heads.{head_bytes, headless, bare_stands}
use Rattle.prefix_code.proofs.Fronts.{bare_front, quantified_front}
use Rattle.prefix_code.proofs.head_end.Goals as goal

pub returns-in_err-get : goal.returns-in_err-get
returns-in_err-get c = rw c.from_residual.ensures (headless _ _ _ (λ h rest b. omega (arith, c.in_err-get.ensures.lookup.3)))

pub returns-in_err-of_byte : goal.returns-in_err-of_byte
returns-in_err-of_byte c =
    let here = c.in_ok-get.ensures.lookup.3 in
    rw c.from_residual-in_err-of_byte.ensures (headless _ _ _ (λ h rest b. omega (arith, here.1 0, c.in_err-of_byte.ensures)))

pub quantifier_end-requires : goal.quantifier_end-requires
quantifier_end-requires c =
    let here = c.in_ok-get.ensures.lookup.3 in
    let front = quantified_front (rw (here.1 0) at c.in_ok-of_byte.ensures) c.in-Quantified.is in
    (here.0, front.0, front.1)

pub returns-in-True : goal.returns-in-True
returns-in-True c =
    let here = c.in_ok-get.ensures.lookup.3 in
    let low = bare_front (rw (here.1 0) at c.in_ok-of_byte.ensures) c.in-True.is in
    ends_at (head_coding _) _ _ _ (omega arith) (omega arith)
    (λ h rest s. (head_bytes _ _ _ h rest s).bare low) (bare_stands _ _ _ here.0 low)
