-- The node is handed back as it is, a refusal located; on a sound sheet there is none.
use Rattle.std.proofs.Common.{rules}
use Rattle.located.proofs.AfterHeader.{judgement_after_header}
use Rattle.located.proofs.Back.{mapped}
use Rattle.skriduhol_terms.proofs.Handed.{refused_is, judges}
use Rattle.skriduhol_terms.proofs.judge.Goals as goal

pub map_err-requires : goal.map_err-requires
map_err-requires c = λ r e. let after = judgement_after_header _ _ _ (refused_is _ _ _ c.judge-judged.ensures e) in search rules

pub returns : goal.returns
returns c = judges _ _ _ c.judge-judged.ensures (mapped _ c.judge-judged.result c.map_err.ensures.cases (λ x l e p. search rules))
