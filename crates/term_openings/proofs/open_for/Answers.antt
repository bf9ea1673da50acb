-- A bracket, and then another one or what stands within.
use mathlib.Core.Path.{refl}
use native.Mathlib.Omega.{arith}
use Rattle.term_stack.specs.Standing.{left_at}
use Rattle.term_stack.proofs.Opened.{opens}
use Rattle.term_openings.specs.Beginning.{with_text, TextBegins, TextEnds}
use Rattle.term_openings.proofs.ClosedTerms.{ends_behind, no_bracket, unit_leaf, bracket_opens, bracket_enters}
use Rattle.term_openings.proofs.open_for.Goals as goal

pub returns-in_err-inside : goal.returns-in_err-inside
unfolding TextEnds with_text
returns-in_err-inside c z closed =
    rw c.from_residual.ensures (no_bracket closed c.requires.1 c.in_err-inside.ensures)

pub use_leaf-requires : goal.use_leaf-requires
unfolding TextBegins with_text
use_leaf-requires c =
    let pre = c.requires in
    record { value = _; holds = unit_leaf pre.0.holds pre.1 c.in_ok-inside.ensures c.in-Some.ensures }

pub returns-in-Some : goal.returns-in-Some
unfolding TextEnds with_text
returns-in-Some c z closed =
    let front = c.in_ok-inside.ensures in
    let close = c.in-Some.ensures in
    ends_behind _ _ _ _ _ (c.use_leaf.ensures _ (unit_leaf closed c.requires.1 front close))
    (omega (arith, front.after, close.after)) close.within refl

pub returns : goal.returns
unfolding TextEnds with_text left_at
returns c z closed =
    let front = c.in_ok-inside.ensures in
    let wordless = c.requires.1 in
    opens (bracket_opens closed wordless front) (bracket_enters closed wordless front c.in_default.ensures)
    _ _ c.enter.ensures _ (omega (arith, front.after))
