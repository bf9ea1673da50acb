-- An entry that is not 0 has the length, and any other is found out and kept.
use Prim.Native.Nat.{ℕ, ◌≤◌}
use native.Mathlib.Omega.{arith}
use lib.ListN.{length}
use Rattle.prop.specs.declared.propositions.Propositions.{Propositions}
use Rattle.prop.specs.Propositions.{text_at, HasProposition}
use Rattle.prop_length.proofs.Lengths.{text_fits}
use Rattle.proof_term_length.proofs.known_length.Goals as goal

-- no text is too long for an entry
small : (p : Propositions) {at : ℕ} → HasProposition p at → length (text_at p at) ≤ 1718065560
small p there = text_fits _ _ _ _ p.memory.fits (p.fits _) there.known

pub overflow_cast-known : goal.overflow_cast-known
overflow_cast-known c = omega (arith, c.text_length-length.ensures.is, small c.args.propositions.now c.requires.printable.0)
