-- The bytes in front are those that are expected, or others.
use mathlib.Core.Path.{sym, ◌∙◌}
use native.Mathlib.Omega.{arith}
use Rattle.words.proofs.Runs.{expect_found, expect_fails}
use Rattle.words.proofs.expect.Goals as goal

pub returns-then-starts_with : goal.returns-then-starts_with
returns-then-starts_with c =
    expect_found c.args.text.now c.args.at (omega arith) c.args.what.now (sym c.starts_with.ensures.value ∙ c.if-starts_with.true)

pub returns : goal.returns
returns c =
    expect_fails c.args.text.now c.args.at (omega arith) c.args.what.now (sym c.starts_with.ensures.value ∙ c.if-starts_with.false)
