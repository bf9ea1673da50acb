-- Each turn of the loop measures one record more, and the table of texts has only lengths of texts.
use Prim.Native.Nat.{ℕ}
use native.Mathlib.Omega.{arith}
use lib.ListN.{length-set, length-replicate}
use Rattle.proof_term_length.proofs.Tables.{none_known, one_measured}
use Rattle.proof_term_length.proofs.term_length.Goals as goal
use Rattle.proof_term_length.proofs.term_length.Goals.{else-loop-m-test, then-loop-m-test+else-m-n}

pub loop-m-init : goal.loop-m-init
loop-m-init c = (length-replicate {A = ℕ} 2048 0, (λ m h. absurd (omega arith)), none_known _ _ 8192)

pub loop-m-preserved : goal.loop-m-preserved
loop-m-preserved c =
    let (long, below, known) = c.loop-m.invariant in (
      simp length-set long,
      one_measured _ _ _ _ _ _ below (omega (arith, long, c.loop-m-test.true, c.requires.few)) c.record_length.ensures.0,
      c.record_length.ensures.1,
    )

-- no record is left, or the last turn has measured it
pub returns : goal.returns
returns c =
    let (long, below, known) = c.loop-m.invariant in
    elim c.loop-m-test.branch [
      | else-loop-m-test w ↦ rw w.lengths-is (below _ (omega (arith, w.loop-m-test.false)))
      | then-loop-m-test+else-m-n w ↦
          let all = one_measured _ _ _ _ _ _ below (omega (arith, long, c.requires.few)) w.record_length.ensures.0 in
          rw w.lengths-is (all _ (omega arith))
    ]
