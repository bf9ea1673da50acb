-- A proposition that is present ends, so it is not absent.
use native.Mathlib.Omega.{arith}
use Rattle.prefix_code.proofs.Reading.{inside}
use Rattle.prefix_code.proofs.known_end.Goals as goal

pub scan-requires : goal.scan-requires
scan-requires c = omega (arith, inside c.requires)
