-- The invariant: so many blocks of left parts with fewer connectives are passed.
use native.Mathlib.Omega.{arith}
use native.Mathlib.Numerals.{add-one}
use Rattle.exercises.proofs.Unranked.{fewer, first_block, product_bounded, this_block, next_block}
use Rattle.exercises.proofs.divide.Goals as goal
use Rattle.exercises.proofs.divide.Goals.{else-loop-size-test, then-loop-size-test+else-rest-block+else-size-k}

pub loop-size-init : goal.loop-size-init
loop-size-init c = first_block _ _ _

pub count-rights-requires : goal.count-rights-requires
count-rights-requires c = fewer c.requires.0 (omega arith)

pub count-requires : goal.count-requires
count-requires c = fewer c.requires.0 c.loop-size.invariant.few

pub overflow_mul-block : goal.overflow_mul-block
overflow_mul-block c = let p = product_bounded c.loop-size.invariant c.count.ensures c.count-rights.ensures in omega (arith, p)

pub returns-then-rest-block : goal.returns-then-rest-block
returns-then-rest-block c = this_block c.loop-size.invariant c.count.ensures c.count-rights.ensures c.if-rest-block.true

pub loop-size-preserved : goal.loop-size-preserved
loop-size-preserved c =
    rw add-one (next_block c.loop-size.invariant c.count.ensures c.count-rights.ensures c.requires.1 c.if-rest-block.false)

pub unreachable-requires : goal.unreachable-requires
unreachable-requires c =
    elim c.loop-size-test.branch [
      | else-loop-size-test w ↦ omega (arith, c.loop-size.invariant.few)
      | then-loop-size-test+else-rest-block+else-size-k w ↦
          let past = next_block c.loop-size.invariant w.count.ensures w.count-rights.ensures c.requires.1 w.if-rest-block.false in
          omega (arith, past.few)
    ]
