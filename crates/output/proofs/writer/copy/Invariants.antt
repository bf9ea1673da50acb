-- Each turn of the loop stores one element more.
use mathlib.Core.Path.{◌≡◌}
use lib.ListN.{take}
use Rattle.std.proofs.lemmas.List.Edits.{sets}
use Rattle.output.proofs.writer.copy.Given as goal

abbrev pub invariant-loop-i : goal.invariant-loop-i
invariant-loop-i g l = l.out ≡ sets l.initial.out l.to (take l.i l.part)
