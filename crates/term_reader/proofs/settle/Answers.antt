-- Text that is left, brackets around the whole, or neither.
use Rattle.term_reader.specs.Whole.{more, bracketed, settled}
use Rattle.term_reader.proofs.Ends.{no_giving}
use Rattle.term_reader.proofs.settle.Goals as goal
use Rattle.term_reader.proofs.settle.Goals.{then-s-names-via-then-s-names, then-s-names-via-else-s-names+then-hand}

pub returns-in_default : goal.returns-in_default
returns-in_default c = no_giving _ c.args.state c.in_default.not-Giving

pub returns-then-s-names : goal.returns-then-s-names
returns-then-s-names c =
    rw c.in-Giving.is
    (elim c.then-s-names.branch [ then-s-names-via-then-s-names w ↦ more w.if-s-names.true | then-s-names-via-else-s-names+then-hand w ↦ bracketed w.if-hand.true ])

pub returns : goal.returns
returns c = rw (c.in-Giving.is, c.from.ensures) (settled c.if-s-names.false c.if-hand.false)
