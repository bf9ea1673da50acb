-- A quantifier has two names below `names`.
use native.Mathlib.Omega.{arith}
use Rattle.prefix_code.specs.Head.{head_coding}
use Rattle.prefix_code.proofs.Runs.{ends_at}
use Rattle.prefix_code.proofs.Heads.{head_bytes, headless, quantified_stands}
use Rattle.prefix_code.proofs.quantifier_end.Goals as goal

pub returns-then-code-at-lt5 : goal.returns-then-code-at-lt5
returns-then-code-at-lt5 c = headless _ _ _ (λ h rest b. let (q, x, t, k) = b.quantified (omega arith) in omega arith)

pub returns-then-names-number_at : goal.returns-then-names-number_at
returns-then-names-number_at c = headless _ _ _ (λ h rest b. omega (arith, (b.named (omega arith)).1))

pub returns-then-names-number_at-2 : goal.returns-then-names-number_at-2
returns-then-names-number_at-2 c = headless _ _ _ (λ h rest b. let (q, x, t, k) = b.quantified (omega arith) in omega arith)

pub returns : goal.returns
returns c =
    ends_at (head_coding _) _ _ _ (omega arith) (omega arith)
    (λ h rest s. let (q, x, t, b) = (head_bytes _ _ _ h rest s).quantified (omega arith) in b.next)
    (quantified_stands _ _ _ (λ i. omega (arith, c.type_inv.code i)) (omega arith) (omega arith) (omega arith)
    (omega arith) (omega arith))
