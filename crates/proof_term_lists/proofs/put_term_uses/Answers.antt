-- Each turn of the loop puts what one record more adds.
use Prim.Native.Nat.{◌+◌}
use native.Mathlib.Omega.{arith}
use Rattle.proof_term_lists.proofs.Labels.{uses_none, uses_more, uses_all, added_stands}
use Rattle.proof_term_lists.proofs.put_term_uses.Goals as goal

pub loop-m-init : goal.loop-m-init
loop-m-init g c = (rw uses_none (g.met.S.UseSink.laws.none _), c.requires.known)

pub put_added-requires : goal.put_added-requires
put_added-requires g c =
    record { added_stands = added_stands c.requires.listable _ c.loop-m.m (omega arith) c.record_adds-added.ensures; known = c.loop-m.invariant.1 }

pub loop-m-preserved : goal.loop-m-preserved
loop-m-preserved g c =
    let laws = g.met.S.UseSink.laws in
    let (put, known) = c.loop-m.invariant in (
      rw (uses_more _ _ c.args.list _ _ c.record_adds-added.ensures) (laws.then put c.put_added.ensures),
      λ name below. laws.stays c.put_added.ensures name (known name below),
    )

pub returns : goal.returns
returns g c =
    let all = uses_all c.requires.listable c.args.list c.loop-m.m (omega arith) in
    rw all at c.loop-m.invariant.0

-- the last turn
pub returns-2 : goal.returns-2
returns-2 g c =
    let all = uses_all c.requires.listable c.args.list (c.loop-m.m + 1) (omega arith) in
    rw (← all, uses_more _ _ c.args.list _ _ c.record_adds-added.ensures) (g.met.S.UseSink.laws.then c.loop-m.invariant.0 c.put_added.ensures)
