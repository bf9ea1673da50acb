-- The new sheet with its refusal located; a length that is handed back is that of the bytes of which the laws hold.
use Rattle.std.proofs.Common.{rules}
use Rattle.located.proofs.AfterHeader.{restatement_after_header}
use Rattle.located.proofs.Back.{mapped, accepted_back}
use Rattle.skriduhol.proofs.Located.{written_refused, fills_back}
use Rattle.skriduhol.proofs.restate.Goals as goal

pub map_err-requires : goal.map_err-requires
map_err-requires c = λ r e. let after = restatement_after_header _ _ _ (written_refused c.restate-written.ensures.fills e) in search rules

pub returns : goal.returns
returns c =
    let record { fills = answer; slots_after = slots; restates = laws } = c.restate-written.ensures in
    let located = mapped _ c.restate-written.result c.map_err.ensures.cases (λ x l e p. search rules) in
    record {
      fills_of = fills_back _ answer located;
      slots_after = slots;
      restates = λ n e. laws n (accepted_back _ c.restate-written.result located e);
    }
