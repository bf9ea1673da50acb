-- The loop's invariant: what the labels of the records below m add is put, and the sink knows the names still.
use Prim.Native.Nat.{ℕ, ◌<◌}
use Rattle.proof_term_lists.proofs.Labels.{uses_below}
use Rattle.proof_term_lists.proofs.put_term_uses.Given as goal

abbrev pub invariant-loop-m : goal.invariant-loop-m
invariant-loop-m g l =
    g.S.UseSink.puts l.initial.sink (uses_below l.memory.bytes.now l.memory.vocabulary l.list l.term_records l.m) l.sink
    × ((name : ℕ) → name < l.memory.vocabulary.name_count → g.S.UseSink.knows l.sink name)
