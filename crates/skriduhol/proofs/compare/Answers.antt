-- Yes and no are handed back as they are, a refusal located.
use mathlib.Core.Path.{sym, ap, ◌∙◌}
use Rattle.std.proofs.Common.{rules}
use Rattle.sheet.specs.Checks.{outcome_of}
use Rattle.located.proofs.AfterHeader.{comparison_after_header}
use Rattle.skriduhol.specs.Located.{verdict_of}
use Rattle.located.proofs.Back.{mapped}
use Rattle.skriduhol.proofs.Located.{verdict_back}
use Rattle.skriduhol.proofs.compare.Goals as goal

pub map_err-requires : goal.map_err-requires
map_err-requires c = λ r e. let after = comparison_after_header _ _ _ (sym c.compare-same.ensures ∙ ap outcome_of e) in search rules

pub returns : goal.returns
returns c =
    let located = mapped _ c.compare-same.result c.map_err.ensures.cases (λ x l e p. search rules) in
    located ∙ verdict_back _ c.compare-same.result ∙ ap (verdict_of _) c.compare-same.ensures
