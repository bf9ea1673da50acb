-- 27, and then the merged sheet.
use Rattle.grafting.proofs.Tests.{open_step, other_conclusions, same_conclusions}
use Rattle.grafting.proofs.merge_equal.Goals as goal

pub same_conclusion-requires-clause-k_bound : goal.same_conclusion-requires-clause-k_bound
same_conclusion-requires-clause-k_bound c = open_step _ _ c.requires

pub returns-then-not-same_conclusion : goal.returns-then-not-same_conclusion
returns-then-not-same_conclusion c =
    rw c.at.ensures (other_conclusions _ _ _ _ _ c.same_conclusion.ensures c.if-not-same_conclusion.true _)

pub returns : goal.returns
returns c =
    same_conclusions _ _ _ _ _ c.same_conclusion.ensures c.if-not-same_conclusion.false c.merge.ensures
