-- The record by itself, and then one part after the other; a part's number is below the record's.
use Rattle.prefix_code.specs.PropAt.{prop_at}
use Rattle.checkable.proofs.Terms.{Checked}
use Rattle.checkable.proofs.+is_checkable.Given as goal

abbrev pub decreases-is_checkable : goal.decreases-is_checkable
decreases-is_checkable l = l.n

abbrev pub invariant-loop-part : goal.invariant-loop-part
invariant-loop-part l = Checked (prop_at l.names l.code) l.records l.n l.part-index
