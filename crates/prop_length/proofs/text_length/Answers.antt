-- The text has fewer bytes than a number says, so all of them are counted.
use native.Mathlib.Omega.{arith}
use Rattle.prop_length.proofs.Lengths.{text_fits}
use Rattle.prop_length.proofs.text_length.Goals as goal

pub returns : goal.returns
returns c =
    let p = c.args.propositions.now in
    let short = text_fits _ _ _ _ p.memory.fits (p.fits c.args.at) c.requires.known in
    record { is = omega (arith, c.put.ensures.counted, short); small = omega (arith, c.put.ensures.counted, short) }
