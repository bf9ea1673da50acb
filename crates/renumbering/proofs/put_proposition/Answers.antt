-- The invariant: the propositions that are left decide what is left to write. The measure is the code that is left.
use native.Mathlib.Omega.{arith}
use Rattle.prefix_code.proofs.Propositions.{headed}
use Rattle.renumbering.proofs.Rows.{at_first, next_asked, one_written, all_written}
use Rattle.renumbering.proofs.put_proposition.Goals as goal

pub loop-i-init : goal.loop-i-init
loop-i-init g c = at_first g.met.S.Sink.laws

pub put_head-requires : goal.put_head-requires
put_head-requires g c = next_asked g.met.S.Sink.laws c.loop-i.invariant c.requires.0 c.loop-i-test.true

pub known_head_end-i-requires : goal.known_head_end-i-requires
known_head_end-i-requires g c =
    let head = next_asked g.met.S.Sink.laws c.loop-i.invariant c.requires.0 c.loop-i-test.true in
    record { value = head.value; rest = head.rest; stands = head.stands }

pub loop-i-smaller : goal.loop-i-smaller
loop-i-smaller g c = omega (arith, headed _ _ _ _ c.known_head_end-i.ensures)

pub loop-i-preserved : goal.loop-i-preserved
loop-i-preserved g c =
    one_written g.met.S.Sink.laws c.loop-i.invariant c.loop-i-test.true c.put_head.ensures c.known_head_end-i.ensures

pub returns : goal.returns
returns g c = all_written g.met.S.Sink.laws c.loop-i.invariant (omega arith)
