-- A number, or that of a free slot, is handed over.
use mathlib.Core.Path.{ap, ◌∙◌}
use Rattle.std.proofs.Common.{rules}
use Rattle.skriduhol_c.specs.Handed.{number_or_free}
use Rattle.skriduhol_c.proofs.Handing.{numbered, mapped, search_handed}
use Rattle.skriduhol_c.proofs.skriduhol_find_name.Goals as goal

pub returns : goal.returns
returns c =
    let found = c.find_name-searched.ensures in
    let said = mapped number_or_free c.find_name-searched.result {r = c.map.result} c.map.ensures.cases (λ o n p. search rules) in
    record {
      hands = search_handed _ c.hand.ensures number_or_free _ (said ∙ ap (numbered number_or_free) found.value);
      by_own_index = λ own. search_handed _ c.hand.ensures number_or_free _ (said ∙ ap (numbered number_or_free) (found.by_own_index own));
    }
