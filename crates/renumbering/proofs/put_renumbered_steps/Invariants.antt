-- The steps before k are written.
use Rattle.renumbering.specs.Renumbered.{mapped}
use Rattle.renumbering.specs.StepOver.{steps_over}
use Rattle.renumbering.proofs.put_renumbered_steps.Given as goal

abbrev pub invariant-loop-k : goal.invariant-loop-k
invariant-loop-k g l = g.S.Sink.puts l.initial.sink (steps_over (mapped l.numbers) l.shift l.records l.k) l.sink
