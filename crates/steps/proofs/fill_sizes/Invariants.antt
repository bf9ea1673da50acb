-- The table is filled step by step, up to the first that finds too few trees.
use Prim.Native.Nat.{◌-◌}
use Rattle.definitions.specs.Admission.{too_few_trees}
use Rattle.steps.specs.Tables.{SizeTable}
use Rattle.steps.proofs.Filling.{Filling}
use Rattle.steps.proofs.fill_sizes.Given as goal

abbrev pub invariant-loop-k : goal.invariant-loop-k
invariant-loop-k l =
    Filling (λ names pairs code. too_few_trees names pairs code l.step_records) (SizeTable l.step_records) l.steps l.initial.sizes l.sizes l.k

abbrev pub decreases-loop-k : goal.decreases-loop-k
decreases-loop-k l = l.steps - l.k
