-- A count is handed back as it is, a refusal located; and demand 3 of it.
use mathlib.Core.Path.{sym, ap, ◌∙◌}
use Rattle.std.proofs.Common.{rules}
use Rattle.definitions.specs.Answers.{label_count}
use Rattle.located.proofs.AfterHeader.{count_after_header}
use Rattle.skriduhol.proofs.Accuracy.{accurate_count}
use Rattle.located.proofs.Back.{mapped, back}
use Rattle.skriduhol.proofs.Located.{counted_refused, counted_back}
use Rattle.skriduhol.proofs.label_count.Goals as goal

pub map_err-requires : goal.map_err-requires
map_err-requires c = λ r e. let after = count_after_header _ (counted_refused _ (sym e ∙ c.label_count-labels.ensures)) in search rules

pub returns : goal.returns
returns c =
    let located = mapped _ c.label_count-labels.result c.map_err.ensures.cases (λ x l e p. search rules) in
    let is = located ∙ ap (back _) c.label_count-labels.ensures ∙ counted_back _ (label_count c.args.s.now) in
    record { value = is; accurate_count = accurate_count _ is }
