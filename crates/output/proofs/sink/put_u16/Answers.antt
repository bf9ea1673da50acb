-- One byte, and then the other.
use Prim.Native.Nat.{◌/◌, ◌%◌}
use mathlib.Core.Path.{◌≡◌}
use native.Mathlib.Omega.{arith}
use Rattle.definitions.specs.Code.{u16}
use Rattle.output.proofs.sink.put_u16.Goals as goal

pub returns : goal.returns
unfolding u16
returns g c =
    let high : c.args.n / 256 % 256 ≡ c.args.n / 256 = omega arith in
    rw (c.to_le_bytes.ensures, high) at (g.met.S.Sink.laws.then c.put.ensures c.put-2.ensures)
