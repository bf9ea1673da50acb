-- Two of a kind are compared as that kind is.
use mathlib.Core.Path.{ap}
use Rattle.definitions.specs.Outcome.{accepted}
use Rattle.comparison.proofs.Conclusions.{two_propositions, two_judgements}
use Rattle.comparison.proofs.compare_conclusions.Goals as goal

pub returns-in-PropIsTrue-PropIsTrue : goal.returns-in-PropIsTrue-PropIsTrue
returns-in-PropIsTrue-PropIsTrue c =
    let both = c.in-PropIsTrue-PropIsTrue in two_propositions _ both.is-0 both.is-1 c.compare_propositions.ensures

pub returns-in-TypeJudgement-TypeJudgement : goal.returns-in-TypeJudgement-TypeJudgement
returns-in-TypeJudgement-TypeJudgement c =
    let both = c.in-TypeJudgement-TypeJudgement in two_judgements _ both.is-0 both.is-1 (ap accepted c.same_judgement.ensures)
