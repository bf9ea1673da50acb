-- The conclusion is opened, and then its proposition.
use mathlib.Core.Path.{sym, ◌∙◌}
use Rattle.proof_tree.specs.Labelling.{judged}
use Rattle.proof_tree.proofs.Concluding.{stands_at}
use Rattle.proof_tree.proofs.Annotations.{shape_found}
use Rattle.proof_tree.proofs.conclusion.StatedConclusion.shape.Goals as goal

pub shape_at-requires : goal.shape_at-requires
shape_at-requires c = stands_at c.args.self.now (sym c.proposition_at.ensures ∙ c.in_ok-at.was)

pub returns-in_err-at : goal.returns-in_err-at
returns-in_err-at c = rw c.from_residual.ensures (judged (sym c.proposition_at.ensures ∙ c.in_err-at.was))

pub returns : goal.returns
returns c = shape_found c.args.self.now.conclusion (sym c.proposition_at.ensures ∙ c.in_ok-at.was) c.shape_at.ensures
