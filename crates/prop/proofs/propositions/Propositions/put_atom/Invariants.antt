-- The loop's invariant: a part of the list of parameters is written, and the other part lists those from i on.
use Prim.Native.Nat.{ℕ}
use mathlib.Core.List.{List}
use Rattle.definitions.specs.Prop.{PropParameter}
use Rattle.prefix_code.specs.Scan.{Stands, parameters_coding}
use Rattle.vocabulary.specs.Memory.{name_of}
use Rattle.prop.proofs.Atoms.{Listing}
use Rattle.prop.proofs.propositions.Propositions.put_atom.Given as goal

abbrev pub invariant-loop-left : goal.invariant-loop-left
invariant-loop-left g l =
    (ps : List (PropParameter ℕ)) (rest : List ℕ) → Stands (parameters_coding l.self.memory.vocabulary.name_count l.count) l.code l.parameters ps rest
    → Listing (name_of l.self.memory) l.self.memory.vocabulary.name_count l.code ps g.S.Sink.puts l.initial.sink l.sink l.i l.left
