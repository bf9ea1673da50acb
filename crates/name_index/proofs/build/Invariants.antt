-- The names enter from number 0 up.
use Rattle.std.proofs.Common.{◌≡◌, ◌≤◌}
use Rattle.definitions.specs.NameIndex.{index}
use Rattle.vocabulary.specs.Memory.{name_of}
use Rattle.name_index.proofs.build.Given as goal

-- the names below i have entered
abbrev pub invariant-loop-i : goal.invariant-loop-i
invariant-loop-i l = (l.i ≤ l.memory.vocabulary.name_count) × (l.slots ≡ index (name_of l.memory) l.i)
