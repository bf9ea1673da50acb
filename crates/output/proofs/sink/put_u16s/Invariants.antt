-- Each turn of the loop puts one number more.
use lib.ListN.{take}
use Rattle.output.specs.Numbers.{u16s}
use Rattle.output.proofs.sink.put_u16s.Given as goal

abbrev pub invariant-loop-n : goal.invariant-loop-n
invariant-loop-n g l = g.S.Sink.puts l.initial.sink (u16s (take l.n-index l.numbers)) l.sink
