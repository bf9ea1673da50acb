-- The loop adds the values of one part after the other, and what they come to is cut at the limit.
use native.Mathlib.Omega.{arith}
use lib.ListN.{get_or}
use borrow.Author.Rules.{rules}
use Rattle.proof_term.proofs.Tally.{sum_none, sum_more, sum_over_is}
use Rattle.proof_term.proofs.sum_over.Goals as goal

pub loop-part-init : goal.loop-part-init
loop-part-init g c = record { low = omega arith; sum = λ is agrees. omega (arith, sum_none (λ i. is (get_or c.args.parts.now i 0))) }

pub loop-part-preserved : goal.loop-part-preserved
loop-part-preserved g c = record {
  low = omega (arith, c.loop-part.invariant.low, c.requires.small c.loop-part.part-index c.value-sum.result (search rules) (search rules));
  sum = λ is agrees.
      let here = agrees c.loop-part.part-index c.value-sum.result (search rules) (search rules) in
      omega (arith, c.loop-part.invariant.sum is agrees, sum_more (λ i. is (get_or c.args.parts.now i 0)) c.loop-part.part-index, here);
}

pub returns : goal.returns
returns g c = λ is agrees. sum_over_is c.args.own c.args.parts.now is (search rules) (c.loop-part.invariant.sum is agrees) c.min.ensures
