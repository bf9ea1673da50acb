-- The invariant: all of fewer connectives are passed.
use native.Mathlib.Omega.{arith}
use native.Mathlib.Numerals.{add-one}
use Rattle.exercises.proofs.Unranked.{fewer, first_size, this_size, next_size, past_all}
use Rattle.exercises.proofs.locate.Goals as goal

pub loop-size-init : goal.loop-size-init
loop-size-init c = first_size _ _ _

pub count-c-requires : goal.count-c-requires
count-c-requires c = fewer c.requires (omega arith)

pub returns-then-index-c : goal.returns-then-index-c
returns-then-index-c c = this_size c.loop-size.invariant (omega arith) c.count-c.ensures c.if-index-c.true

pub returns-else-index-c : goal.returns-else-index-c
returns-else-index-c c = past_all (next_size c.loop-size.invariant (omega arith) c.count-c.ensures c.if-index-c.false) (omega arith)

pub loop-size-preserved : goal.loop-size-preserved
loop-size-preserved c = rw add-one (next_size c.loop-size.invariant (omega arith) c.count-c.ensures c.if-index-c.false)

pub returns : goal.returns
returns c = past_all c.loop-size.invariant (omega arith)
