-- The proposition, its brackets, and then its limits.
use mathlib.Core.Path.{refl}
use mathlib.Core.List.{[]}
use native.Mathlib.Omega.{arith}
use Rattle.definitions.specs.Sheet.{code_limit, proposition_nesting_limit}
use Rattle.definitions.specs.TermText.{term_text_limit}
use Rattle.prop_reader.proofs.Labels.{binds_nothing, prop_begins, proposition_not, proposition_bracketed, proposition_deep, proposition_large, proposition_given}
use Rattle.prop_reader.proofs.read_proposition.Goals as goal

pub read_prop-requires : goal.read_prop-requires
read_prop-requires c = prop_begins c.requires refl

pub returns-in_err-read : goal.returns-in_err-read
returns-in_err-read c = rw c.from_residual.ensures (proposition_not (c.in_err-read.ensures [] (binds_nothing _ _)))

pub returns-then-read : goal.returns-then-read
returns-then-read c =
    proposition_bracketed (c.in_ok-read.ensures [] (binds_nothing _ _)) c.if-read.true

pub returns-then-read-gt-NESTING_LIMIT : goal.returns-then-read-gt-NESTING_LIMIT
unfolding code_limit proposition_nesting_limit
returns-then-read-gt-NESTING_LIMIT c =
    proposition_deep (c.in_ok-read.ensures [] (binds_nothing _ _)) c.if-read-gt-NESTING_LIMIT.true

pub returns-then-size-gt-CODE_LIMIT : goal.returns-then-size-gt-CODE_LIMIT
unfolding code_limit proposition_nesting_limit
returns-then-size-gt-CODE_LIMIT c =
    proposition_large (c.in_ok-read.ensures [] (binds_nothing _ _)) c.if-size-gt-CODE_LIMIT.true

pub overflow_cast-result : goal.overflow_cast-result
unfolding term_text_limit
overflow_cast-result c =
    let pre = c.requires in
    let (p, reads, given) = (c.in_ok-read.ensures [] (binds_nothing _ _)).answer in
    omega (arith, pre.near, c.args.names.now.table.short, given.from, given.within)

pub returns : goal.returns
unfolding code_limit proposition_nesting_limit
returns c =
    proposition_given (c.in_ok-read.ensures [] (binds_nothing _ _)) c.requires c.if-read.false c.if-read-gt-NESTING_LIMIT.false c.if-size-gt-CODE_LIMIT.false
