-- A step that is there has its column among the records; for one that is not, the definition gives 0.
use mathlib.Core.Path.{◌≡◌, sym}
use native.Mathlib.Omega.{arith}
use Rattle.steps.specs.StepAt.{step_at}
use Rattle.sheet.specs.Header.{header_of}
use Rattle.located.proofs.Columns.{header_some, not_none, read_header, no_step, has_step}
use Rattle.located.proofs.column_at.Goals as goal
use Rattle.located.proofs.column_at.Goals.{In_ok-h}

is_header : (c : In_ok-h) → c.in_ok-h.h ≡ header_of c.args.s.now
is_header c = header_some c.requires c.header.ensures c.in_ok-h.ensures.value

pub returns-in_err-h : goal.returns-in_err-h
returns-in_err-h c = absurd (not_none c.requires c.header.ensures c.in_err-h.ensures.value)

pub returns-then-h-k : goal.returns-then-h-k
returns-then-h-k c =
    sym (no_step c.requires (is_header (goal.at.returns-then-h-k c).In_ok-h) _ c.if-h-k.true)

pub invariant_of-sheet : goal.invariant_of-sheet
invariant_of-sheet c =
    record { headed = read_header c.requires (is_header (goal.at.invariant_of-sheet c).In_ok-h); fits = λ i. omega (arith, c.type_inv.s i) }

pub step_at-step-requires : goal.step_at-step-requires
step_at-step-requires c =
    rw c.step_records.ensures (has_step c.requires (is_header (goal.at.step_at-step-requires c).In_ok-h) _ c.if-h-k.false)
