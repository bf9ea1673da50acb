-- An atom ends where its parameters end: a name below `names`, and a count within the limit.
use native.Mathlib.Omega.{arith}
use Rattle.definitions.specs.Code.{parameter_limit}
use Rattle.prefix_code.proofs.Heads.{headless, atom_ends}
use Rattle.prefix_code.proofs.atom_end.Goals as goal

pub returns-then-code-at-lt4 : goal.returns-then-code-at-lt4
returns-then-code-at-lt4 c = headless _ _ _ (λ h rest b. omega (arith, (b.named (omega arith)).0))

pub returns-then-names-number_at : goal.returns-then-names-number_at
returns-then-names-number_at c = headless _ _ _ (λ h rest b. omega (arith, (b.named (omega arith)).1))

pub returns-then-count-gt-PARAMETER_LIMIT : goal.returns-then-count-gt-PARAMETER_LIMIT
unfolding parameter_limit
returns-then-count-gt-PARAMETER_LIMIT c = headless _ _ _ (λ h rest b. let (a, ps, atom) = b.atom (omega arith) in omega arith)

pub returns : goal.returns
unfolding parameter_limit
returns c =
    atom_ends _ _ _ (λ i. omega (arith, c.type_inv.code i)) (omega arith) _ (omega arith) (omega arith)
    (omega arith) c.parameters_end.ensures
