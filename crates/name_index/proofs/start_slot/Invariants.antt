-- The bytes that are left bring the running number to that of the whole name.
use Rattle.std.proofs.Common.{◌≡◌, drop}
use Rattle.definitions.specs.NameIndex.{running}
use Rattle.name_index.proofs.start_slot.Given as goal

abbrev pub invariant-loop-byte : goal.invariant-loop-byte
invariant-loop-byte l = running l.running (drop l.byte-index l.name) ≡ running 0 l.name
