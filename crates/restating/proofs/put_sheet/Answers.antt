-- The header, what stands before the text, the step and the rest are put one after another.
use Rattle.definitions.specs.Sheet.{header_size}
use Rattle.sheet.proofs.Admitted.{AcceptedSheet, beside_header}
use Rattle.restating.proofs.Bytes.{in_range_after, sheet_parts}
use Rattle.restating.proofs.put_sheet.Goals as goal
use Rattle.restating.proofs.put_sheet.Goals.{After-header-h}

its : (g : _) (c : After-header-h g) → AcceptedSheet c.args.sheet.now c.header-h.result
its g c = beside_header c.header-h.ensures.is c.header-h.ensures.accepted

pub put_header-requires : goal.put_header-requires
put_header-requires g c = in_range_after (its g (goal.at.put_header-requires g c).After-header-h) c.requires

pub returns : goal.returns
unfolding header_size
returns g c =
    let laws = g.met.S.Sink.laws in
    let put = laws.then c.put_header.ensures (laws.then c.put_all.ensures (laws.then c.put_all-2.ensures c.put_all-3.ensures)) in
    rw (← sheet_parts (its g (goal.at.returns g c).After-header-h) c.args.step.now c.layout-text.ensures) (rw c.bytes-s.ensures.is at put)
