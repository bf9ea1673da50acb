-- The label by the ending.
use Rattle.proof_tree.proofs.Annotations.{unlabelled}
use Rattle.proof_tree.proofs.conclusion.StatedConclusion.annotation.Goals as goal

pub returns-in-Bare : goal.returns-in-Bare
returns-in-Bare c names m means = unlabelled _ _ _ _ _ _ m c.in-Bare.is
