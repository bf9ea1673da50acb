-- The invariant: the machine is between two turns. The measure is what is left.
use mathlib.Core.Path.{◌≡◌, refl, sym, ap, ◌∙◌}
use Rattle.std.specs.Prelude.{None, Some}
use native.Mathlib.Omega.{arith}
use Rattle.std.proofs.Common.{rules}
use Rattle.term_stack.specs.Turning.{scene_of}
use Rattle.term_reader.specs.Between.{TurnFollows, GoesOn}
use Rattle.term_reader.proofs.Turns.{at_text, own_text, turned_on, ends_of, begun}
use Rattle.term_reader.proofs.Ends.{ended}
use Rattle.term_reader.proofs.read.Goals as goal

-- the text of the table that was cleared is that of the table lent
pub loop-names-init : goal.loop-names-init
loop-names-init c =
    let at_start : c.default.result ≡ record { at = 0; depth = 0; used = 0; to = 0 } = search rules in
    record { there = rw at_start (begun _ _ _ c.requires c.clear.ensures.1 _); code_size = refl }

pub turn-requires : goal.turn-requires
unfolding TurnFollows
turn-requires c =
    (record { value = _; holds = own_text _ _ _ _ _ _ _ c.loop-names.invariant.there }, sym c.goes_on.ensures ∙ c.loop-names-test.true)

pub returns-in_err-state : goal.returns-in_err-state
unfolding GoesOn
returns-in_err-state c =
    let there = c.loop-names.invariant.there in
    rw c.from_residual.ensures
    (ends_of _ _ _ _ c.turn.new.work None (ap (λ t. t.now) c.clear.ensures.0)
    (turned_on _ _ _ _ _ _ _ there _ _ c.turn.new.work None (c.in_err-state.ensures _ (own_text _ _ _ _ _ _ _ there))))

pub loop-names-smaller : goal.loop-names-smaller
unfolding GoesOn scene_of
loop-names-smaller c =
    let there = c.loop-names.invariant.there in
    (turned_on _ _ _ _ _ _ _ there _ _ _ (Some _) (c.in_ok-state.ensures _ (own_text _ _ _ _ _ _ _ there))).less

pub loop-names-preserved : goal.loop-names-preserved
unfolding GoesOn
loop-names-preserved c =
    let inv = c.loop-names.invariant in
    record {
      there = (turned_on _ _ _ _ _ _ _ inv.there _ _ _ (Some _) (c.in_ok-state.ensures _ (own_text _ _ _ _ _ _ _ inv.there))).there;
      code_size = omega (arith, inv.code_size);
    }

pub returns : goal.returns
unfolding scene_of
returns c =
    let there = c.loop-names.invariant.there in
    let settled = rw (at_text _ _ _ there) at c.settle.ensures in
    ends_of _ _ _ _ _ _ (ap (λ t. t.now) c.clear.ensures.0) (ended _ _ _ there (sym c.goes_on.ensures ∙ c.loop-names-test.false) _ settled)
