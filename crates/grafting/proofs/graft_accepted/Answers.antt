-- 26, and then the others.
use mathlib.Core.Path.{◌≡◌, sym, ◌∙◌}
use Rattle.definitions.specs.Graft.{not_open}
use Rattle.sheet.proofs.Admitted.{with_header}
use Rattle.merged_sheet.proofs.Bytes.{grafts}
use Rattle.grafting.proofs.Tests.{open_step, not_open_refused, open_grafted}
use Rattle.grafting.proofs.graft_accepted.Goals as goal
use Rattle.grafting.proofs.graft_accepted.Goals.{After-not_open}

-- the test of 26, in the sheet's own words
tested : (c : After-not_open) → c.not_open.result ≡ not_open c.args.host.now c.args.k
tested c = rw c.admitted-h.ensures.is at c.not_open.ensures

pub returns-then-not_open-clause-merging : goal.returns-then-not_open-clause-merging
returns-then-not_open-clause-merging c =
    rw c.at.ensures (not_open_refused _ _ _ _ (sym (tested (goal.at.returns-then-not_open-clause-merging c).After-not_open) ∙ c.if-not_open.true) _)

pub too_deep-requires : goal.too_deep-requires
too_deep-requires c = open_step _ _ (sym (tested (goal.at.too_deep-requires c).After-not_open) ∙ c.if-not_open.false)

pub returns-clause-merging : goal.returns-clause-merging
returns-clause-merging c =
    let host = c.admitted-h.ensures.accepted in
    let donor = c.admitted-g.ensures.accepted in
    let not_open = sym (tested (goal.at.returns-clause-merging c).After-not_open) ∙ c.if-not_open.false in
    let two = grafts (with_header host) (with_header donor) host.bytes donor.bytes not_open in
    open_grafted _ _ _ _ two c.too_deep.ensures (rw (c.admitted-h.ensures.is, c.admitted-g.ensures.is) at c.merge_equal.ensures)
