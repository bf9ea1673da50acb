-- The invariant: the numbers before i are over other names, and all others are as they were.
use mathlib.Core.Path.{refl}
use native.Mathlib.Omega.{arith}
use Rattle.proof_term.specs.Records.{field_at}
use Rattle.term_renumbering.proofs.Numbers.{partly_all}
use Rattle.term_renumbering.proofs.renumber_record.Goals as goal

pub returns : goal.returns
unfolding field_at
returns c = partly_all _ _ c.kind_at-kind.ensures refl (omega (arith, c.requires, c.loop-i-test.false)) c.loop-i.invariant
