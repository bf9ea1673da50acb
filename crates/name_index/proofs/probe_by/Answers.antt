-- The slots before the first that holds no other's number are stepped over.
use Prim.Native.Nat.{◌+◌, ◌%◌}
use mathlib.Core.Path.{refl, sym, ◌∙◌}
use native.Mathlib.Omega.{arith}
use borrow.Author.Rules.{rules}
use Rattle.definitions.specs.NameIndex.{slot_count, free}
use Rattle.name_index.proofs.Probing.{slot_here, one_further, at_free, at_equal, past_all}
use Rattle.name_index.proofs.probe_by.Goals as goal

pub returns-then-number : goal.returns-then-number
unfolding slot_count free
returns-then-number g c = λ named agrees.
    let here = slot_here c.args.slots.now _ (search rules) (omega arith) in
    rw c.start_slot-start.ensures
    (at_free named c.args.slots.now _
    (λ k l. let passed = rw c.start_slot-start.ensures at (c.loop-step.invariant k l) in record { taken = passed.0; other = sym (agrees _ _ passed.1) })
    c.loop-step-test.true (rw c.start_slot-start.ensures at (here ∙ c.if-number.true)))

pub is_equal-requires : goal.is_equal-requires
unfolding slot_count free
is_equal-requires g c =
    let holds = slot_here c.args.slots.now _ (search rules) (omega arith) ∙ sym c.from.ensures in
    rw holds at (c.requires ((c.start_slot-start.result + c.loop-step.step) % 1024) (omega arith) (λ e. c.if-number.false (sym c.from.ensures ∙ (sym holds ∙ e))))

pub returns-then-is_equal : goal.returns-then-is_equal
unfolding slot_count free
returns-then-is_equal g c = λ named agrees.
    let holds = slot_here c.args.slots.now _ (search rules) (omega arith) ∙ sym c.from.ensures in
    rw c.from-then-is_equal.ensures
    (at_equal named c.args.slots.now _
    (λ k l. let passed = rw c.start_slot-start.ensures at (c.loop-step.invariant k l) in record { taken = passed.0; other = sym (agrees _ _ passed.1) })
    c.loop-step-test.true (rw (c.start_slot-start.ensures, c.from.ensures) at holds) c.if-number.false
    (sym (agrees _ _ (rw (c.from.ensures, c.if-is_equal.true) at c.is_equal.ensures))))

pub loop-step-preserved : goal.loop-step-preserved
unfolding slot_count free
loop-step-preserved g c =
    let holds = slot_here c.args.slots.now ((c.start_slot-start.result + c.loop-step.step) % 1024) (search rules) (omega arith) ∙ sym c.from.ensures in
    one_further _ c.loop-step.step c.loop-step.invariant
    (λ e. c.if-number.false (sym c.from.ensures ∙ (sym holds ∙ e)), rw (holds, ← c.if-is_equal.false) c.is_equal.ensures)

pub returns : goal.returns
unfolding slot_count
returns g c = λ named agrees.
    rw c.start_slot-start.ensures
    (past_all named c.args.slots.now _
    (λ k l. let passed = rw c.start_slot-start.ensures at (c.loop-step.invariant k (omega arith)) in record { taken = passed.0; other = sym (agrees _ _ passed.1) }) refl)
