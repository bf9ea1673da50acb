-- The loop's invariant: what is left of the premisses decides what they all come to. The calls end by the step's number.
use Prim.Native.Nat.{ℕ, ◌-◌}
use mathlib.Core.Path.{◌≡◌}
use lib.ListN.{length}
use Rattle.proof_tree.specs.Table.{mode_of}
use Rattle.proof_tree.specs.Exporting.{ExportableWith}
use Rattle.proof_tree.proofs.ReadPremisses.{PremissesRead}
use Rattle.proof_tree.proofs.+do_export_as_proof_term.Given as goal

abbrev pub decreases-do_export_as_proof_term : goal.decreases-do_export_as_proof_term
decreases-do_export_as_proof_term l = l.k

abbrev pub invariant-loop-i : goal.invariant-loop-i
invariant-loop-i l =
    let before = l.initial.terms in
    ((names : ℕ) → ExportableWith names l.steps → PremissesRead names l.steps.pairs.now l.steps.code.now l.steps.records.now l.k (mode_of l.mode) l.row before.numbers.now before.used l.i l.parts l.terms.numbers.now l.terms.used)
    × (l.terms.numbers.ghost_name ≡ before.numbers.ghost_name)

abbrev pub decreases-loop-i : goal.decreases-loop-i
decreases-loop-i l = length l.row.modes.now - l.i
