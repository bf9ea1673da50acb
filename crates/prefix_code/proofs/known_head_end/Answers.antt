-- A head that starts at a position ends, so it is not absent.
use native.Mathlib.Omega.{arith}
use Rattle.prefix_code.proofs.Heads.{head_bytes}
use Rattle.prefix_code.proofs.known_head_end.Goals as goal

pub head_end-requires : goal.head_end-requires
head_end-requires c = omega (arith, head_bytes _ _ _ _ _ c.requires.stands)
