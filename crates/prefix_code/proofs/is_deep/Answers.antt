-- No proposition of at most the limit ends inside the bytes exactly if theirs nests deeper; short code never does.
use mathlib.Core.Path.{sym, ap, ◌∙◌}
use mathlib.Core.Bool.{not}
use native.Mathlib.Omega.{arith}
use Rattle.std.proofs.Math.Bool.{not-not}
use Rattle.prefix_code.proofs.Whole.{shallow_whole, short_whole}
use Rattle.prefix_code.proofs.is_deep.Goals as goal

pub returns : goal.returns
returns c =
    sym (not-not c.is_none.result) ∙ ap not (sym c.is_none.ensures)
    ∙ shallow_whole _ _ (λ i. omega (arith, c.type_inv.code i)) _ _ c.requires c.shallow_end.ensures

pub returns-then-code-limit : goal.returns-then-code-limit
returns-then-code-limit c = short_whole _ _ (λ i. omega (arith, c.type_inv.code i)) _ c.requires (omega (arith, c.if-code-limit))
