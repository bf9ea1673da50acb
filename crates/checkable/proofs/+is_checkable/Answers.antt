-- The record by itself, and then one part after the other; a part's number is below the record's.
use mathlib.Core.Path.{◌∙◌}
use native.Mathlib.Omega.{arith}
use Prim.Native.Nat.{ℕ, ◌+◌, ◌<◌}
use mathlib.Core.Path.{◌≡◌}
use lib.ListN.{length}
use Rattle.proof_term.specs.Records.{field_at}
use Rattle.checkable.proofs.+is_checkable.Goals.{After-from-part, else-part-n-via-then-part-n+else-not-is_checkable, else-part-n-via-else-part-n}
use borrow.Author.Rules.{rules}
use Rattle.checkable.proofs.Terms.{checked_none, checked_unit, checked_part, checked_stop, checked_all, own_stop, labels_below}
use Rattle.checkable.proofs.+is_checkable.Goals as goal

pub returns-then-not-is_plain_record : goal.returns-then-not-is_plain_record
returns-then-not-is_plain_record t c = own_stop _ _ _ _ c.is_plain_record.ensures c.if-not-is_plain_record.true

pub loop-part-init : goal.loop-part-init
loop-part-init t c = checked_none _ _ _ _ c.is_plain_record.ensures c.if-not-is_plain_record.false

pub is_checkable-requires : goal.is_checkable-requires
is_checkable-requires t c = (omega arith, (omega arith, labels_below c.requires.1 _ (omega arith)))

-- the part that is looked at is the record's
part_is : (t : ℕ) → (c : After-from-part t) → c.from-part.result ≡ field_at c.args.records.now c.args.n (1 + c.loop-part.part-index)
part_is t c = c.from-part.ensures ∙ c.parts_at-part-items.ensures.part c.loop-part.part-index (search rules)

pub returns-then-not-is_checkable : goal.returns-then-not-is_checkable
returns-then-not-is_checkable t c =
    let is = part_is t (goal.at.returns-then-not-is_checkable t c).After-from-part in
    let counted = c.parts_at-part-items.ensures.count in
    let inside : c.loop-part.part-index < length c.parts_at-part-items.result.now = search rules in
    checked_stop _ _ _ _ _ is c.loop-part.invariant (omega (arith, counted, inside)) c.if-part-n.true _ c.is_checkable.ensures c.if-not-is_checkable.true

pub loop-part-preserved : goal.loop-part-preserved
loop-part-preserved t c =
    let is = part_is t (goal.at.loop-part-preserved t c).After-from-part in
    elim c.else-part-n.branch [
      | else-part-n-via-then-part-n+else-not-is_checkable w ↦
          checked_part _ _ _ _ _ is c.loop-part.invariant w.if-part-n.true _ w.is_checkable.ensures w.if-not-is_checkable.false
      | else-part-n-via-else-part-n w ↦ checked_unit _ _ _ _ _ is c.loop-part.invariant w.if-part-n.false
    ]

pub returns : goal.returns
returns t c =
    let all : c.loop-part.part-index ≡ length c.parts_at-part-items.result.now = search rules in
    checked_all _ _ _ _ c.loop-part.invariant (all ∙ c.parts_at-part-items.ensures.count)
