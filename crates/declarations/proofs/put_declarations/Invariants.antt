-- The loop's invariant: the lines of the first j declarations are put.
use lib.ListN.{take}
use Prim.Native.Nat.{ℕ, ◌<◌}
use Rattle.vocabulary.specs.Memory.{name_of}
use Rattle.declarations.specs.Chains.{row}
use Rattle.declarations.specs.Memory.{declared_uses}
use Rattle.declarations.specs.Lines.{declaration_lines}
use Rattle.declarations.proofs.put_declarations.Given as goal

abbrev pub invariant-loop-j : goal.invariant-loop-j
invariant-loop-j g l =
    g.S.Sink.puts l.initial.sink (declaration_lines l.list (declared_uses (name_of l.memory) (take l.j l.declared))) l.sink
    × ((i : ℕ) → i < l.j → (row l.declared i).count < 65536)
