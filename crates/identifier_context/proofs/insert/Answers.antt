-- What is stored is the latest entry, and a refusal leaves all as it was.
use native.Mathlib.Omega.{arith}
use native.Mathlib.Numerals.{add-one}
use Rattle.identifier_context.proofs.Insertion.{inserts_nothing, inserts_entry}
use Rattle.identifier_context.proofs.insert.Goals as goal

pub returns-then-entries-len : goal.returns-then-entries-len
returns-then-entries-len c = rw c.at.ensures (inserts_nothing (omega arith))

pub returns : goal.returns
returns c = rw add-one (inserts_entry _ _ c.args.entry (omega arith))
