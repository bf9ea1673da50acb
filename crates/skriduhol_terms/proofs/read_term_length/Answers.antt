-- What the reader answers given room is handed back.
use mathlib.Core.Path.{ap, ◌∙◌}
use Rattle.std.proofs.Common.{rules}
use Rattle.skriduhol_terms.proofs.TermsRead.{nowhere, mapped, reading_back}
use Rattle.skriduhol_terms.proofs.read_term_length.Goals as goal

pub returns : goal.returns
returns c =
    let back = mapped c.term_size-size.result c.map_err.ensures.cases (λ x l p. search rules) in
    back ∙ ap nowhere c.term_size-size.ensures ∙ reading_back _
