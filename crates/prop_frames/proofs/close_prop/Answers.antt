-- A bracket, a negation, or a quantifier.
use mathlib.Core.Path.{◌≡◌, refl}
use Rattle.std.specs.Prelude.{None}
use borrow.Author.Rules.{rules}
use Rattle.prop_frames.proofs.Fronts.{is_bracketed, is_negated, closes_bracket_not, closes_bracket_open, closes_bracket, closes_negation_not, closes_negation, closes_quantifier_not, closes_quantifier, differs, agrees}
use Rattle.prop_frames.proofs.close_prop.Goals as goal

pub returns-then-part : goal.returns-then-part
returns-then-part c f q e m = rw (is_bracketed f (rw c.in-Bracket.is at e)) (closes_bracket_not m c.if-part.true)

pub returns-in_err-end-in-Bracket : goal.returns-in_err-end-in-Bracket
returns-in_err-end-in-Bracket c f q e m =
    let none : c.from_residual.result ≡ None = search rules in
    rw (is_bracketed f (rw c.in-Bracket.is at e), none) (closes_bracket_open m c.in_err-end-in-Bracket.ensures)

pub returns-in_ok-end-in-Bracket : goal.returns-in_ok-end-in-Bracket
returns-in_ok-end-in-Bracket c f q e m =
    rw (is_bracketed f (rw c.in-Bracket.is at e)) (closes_bracket m c.if-part.false c.in_ok-end-in-Bracket.ensures)

pub returns-then-part-2 : goal.returns-then-part-2
returns-then-part-2 c f q e m =
    rw (is_negated f (rw c.in-Negation.is at e)) (closes_negation_not m refl (differs _ _ c.if-part-2.true))

pub returns-else-part-2 : goal.returns-else-part-2
returns-else-part-2 c f q e m =
    rw (is_negated f (rw c.in-Negation.is at e), c.enclosing.ensures)
    (closes_negation m refl (agrees _ _ c.if-part-2.false) (search rules) c.put.ensures)

pub returns-then-part-3 : goal.returns-then-part-3
returns-then-part-3 c f q e m = closes_quantifier_not m _ f (rw c.in-Binder.is at e) c.if-part-3.true

pub returns-else-part-3 : goal.returns-else-part-3
returns-else-part-3 c f q e m =
    rw c.enclosing-in-Binder.ensures (closes_quantifier m _ f (rw c.in-Binder.is at e) c.if-part-3.false (search rules))
