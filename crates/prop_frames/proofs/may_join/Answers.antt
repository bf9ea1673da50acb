-- The brackets of the left side, those of the right side, and whether this is a negation.
use mathlib.Core.Path.{refl}
use Rattle.prop_frames.proofs.Fronts.{differs, agrees}
use Rattle.prop_frames.proofs.Sides.{left_differs, right_differs, no_negation, other_agrees}
use Rattle.prop_frames.proofs.may_join.Goals as goal

pub returns-then-left-wraps_left : goal.returns-then-left-wraps_left
returns-then-left-wraps_left c p q m n =
    left_differs c.args.connective m n c.wraps_left.ensures refl (differs _ _ c.if-left-wraps_left.true)

pub returns-then-right-wraps_right : goal.returns-then-right-wraps_right
returns-then-right-wraps_right c p q m n =
    right_differs c.args.connective m n c.wraps_left.ensures refl
    c.wraps_right.ensures refl (agrees _ _ c.if-left-wraps_left.false) (differs _ _ c.if-right-wraps_right.true)

pub returns-in-Impl : goal.returns-in-Impl
returns-in-Impl c p q m n =
    no_negation c.args.connective m n c.wraps_left.ensures refl
    c.wraps_right.ensures refl (agrees _ _ c.if-left-wraps_left.false) (agrees _ _ c.if-right-wraps_right.false) c.in-Impl.is

pub returns-in_default : goal.returns-in_default
returns-in_default c p q m n =
    other_agrees c.args.connective m n c.wraps_left.ensures refl
    c.wraps_right.ensures refl (agrees _ _ c.if-left-wraps_left.false) (agrees _ _ c.if-right-wraps_right.false) c.in_default.not-Impl
