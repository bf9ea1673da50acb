-- One parameter more is written behind those before it.
use Prim.Native.Nat.{◌+◌, ◌-◌}
use mathlib.Core.Path.{◌≡◌}
use native.Mathlib.Omega.{arith}
use Rattle.prefix_code.specs.Scan.{Ends, parameter_coding}
use Rattle.renumbering.proofs.Parameters.{at_first, next_asked, next_known, next_ends, one_written, all_written}
use Rattle.renumbering.proofs.MappedCode.put_parameters.Goals as goal
use Rattle.renumbering.proofs.MappedCode.put_parameters.Goals.{After-size-i}

pub loop-init : goal.loop-init
loop-init g c = let all : c.args.count - 0 ≡ c.args.count = omega arith in rw all (at_first g.met.S.Sink.laws c.requires.inside)

pub put_parameter-requires : goal.put_parameter-requires
put_parameter-requires g c = next_asked g.met.S.Sink.laws c.loop.invariant c.requires (omega arith)

-- where the next parameter ends, by its kind
ends : (g : _) (c : After-size-i g) → Ends (parameter_coding c.args.self.now.names) c.args.self.now.code.now c.loop.i (c.loop.i + c.size-i.result)
ends g c = rw c.size-i.ensures (next_ends g.met.S.Sink.laws c.loop.invariant c.requires (omega arith) c.of_known.result c.of_known.ensures)

pub loop-preserved : goal.loop-preserved
loop-preserved g c =
    let fewer : c.args.count - (c.loop.counter + 1) ≡ c.args.count - c.loop.counter - 1 = omega arith in
    rw fewer (one_written g.met.S.Sink.laws c.loop.invariant (omega arith) c.put_parameter.ensures (ends g (goal.at.loop-preserved g c).After-size-i))

pub bounds-self-i : goal.bounds-self-i
bounds-self-i g c = (next_known g.met.S.Sink.laws c.loop.invariant c.requires (omega arith)).0

pub of_known-requires : goal.of_known-requires
of_known-requires g c = (next_known g.met.S.Sink.laws c.loop.invariant c.requires (omega arith)).1

pub returns : goal.returns
returns g c = all_written g.met.S.Sink.laws c.loop.invariant (omega arith)
