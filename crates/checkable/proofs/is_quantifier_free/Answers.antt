-- One head after the other; the first that is not plain decides.
use native.Mathlib.Omega.{arith}
use Rattle.prefix_code.proofs.Propositions.{headed}
use Rattle.checkable.proofs.Plain.{looking_start, looking_head, looking_starts, looking_stop, looking_next, looking_end}
use Rattle.checkable.proofs.is_quantifier_free.Goals as goal

pub loop-i-preserved : goal.loop-i-preserved
loop-i-preserved c =
    looking_next c.loop-i.invariant c.loop-i-test.true c.is_plain_head.ensures c.if-not-is_plain_head.false c.known_head_end-i.ensures

pub loop-i-init : goal.loop-i-init
loop-i-init c = looking_start

pub is_plain_head-requires : goal.is_plain_head-requires
is_plain_head-requires c = looking_head c.loop-i.invariant c.loop-i-test.true c.requires

pub returns-then-not-is_plain_head : goal.returns-then-not-is_plain_head
returns-then-not-is_plain_head c = looking_stop c.loop-i.invariant c.loop-i-test.true c.is_plain_head.ensures c.if-not-is_plain_head.true

pub known_head_end-i-requires : goal.known_head_end-i-requires
known_head_end-i-requires c = looking_starts c.loop-i.invariant c.loop-i-test.true c.requires

pub loop-i-smaller : goal.loop-i-smaller
loop-i-smaller c = omega (arith, headed _ _ _ _ c.known_head_end-i.ensures)

pub returns : goal.returns
returns c = looking_end c.loop-i.invariant c.loop-i-test.false
