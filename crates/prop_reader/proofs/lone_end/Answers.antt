-- The name, and then neither a bracket nor a connective.
use mathlib.Core.Path.{sym, ◌∙◌}
use Rattle.definitions.specs.Utf8.{utf8}
use Rattle.words.proofs.Words.{stands, stands_not}
use Rattle.prop_reader.proofs.Labels.{lone_no_name, lone_bracket, lone_connective, lone_there}
use Rattle.prop_reader.proofs.lone_end.Goals as goal

pub returns-in_err-end : goal.returns-in_err-end
returns-in_err-end c = rw c.from_residual.ensures (lone_no_name c.args.text.now c.args.at c.in_err-end.ensures)

pub returns-then-is_some : goal.returns-then-is_some
returns-then-is_some c =
    lone_bracket c.in_ok-end.ensures
    (stands (utf8 "(") c.args.text.now c.in_ok-end.end c.expect.result c.expect.ensures (sym c.is_some.ensures ∙ c.if-is_some.true))

pub returns-then-is_some-2 : goal.returns-then-is_some-2
returns-then-is_some-2 c =
    lone_connective c.in_ok-end.ensures c.connective_at.result c.connective_at.ensures (sym c.is_some-2.ensures ∙ c.if-is_some-2.true)

pub returns : goal.returns
returns c =
    lone_there c.in_ok-end.ensures c.connective_at.result c.connective_at.ensures (sym c.is_some-2.ensures ∙ c.if-is_some-2.false)
    (stands_not (utf8 "(") c.args.text.now c.in_ok-end.end c.expect.result c.expect.ensures (sym c.is_some.ensures ∙ c.if-is_some.false))
