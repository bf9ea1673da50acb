-- The merged sheet with its refusal located; a length that is handed back is that of the bytes of which the laws hold.
use Rattle.std.proofs.Common.{rules}
use Rattle.skriduhol.proofs.Grafts.{after_headers, mapped_by, grafts_back, length_told}
use Rattle.skriduhol.proofs.graft.Goals as goal

pub map_err-requires : goal.map_err-requires
map_err-requires c = λ x e. let after = after_headers _ _ _ _ c.graft-merged.ensures.fills_by e in search rules

pub returns : goal.returns
returns c =
    let record { fills_by = answer; slots_after = slots; merges = laws } = c.graft-merged.ensures in
    let located = mapped_by _ _ c.graft-merged.result c.map_err.ensures.cases (λ x l p. search rules) in
    record {
      grafts_of = grafts_back _ _ _ _ answer located;
      slots_after = slots;
      merges = λ n e. laws n (length_told _ _ c.graft-merged.result located e);
    }
