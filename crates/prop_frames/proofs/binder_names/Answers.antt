-- The object, a colon, the datatype, a dot.
use mathlib.Core.Path.{◌≡◌}
use Rattle.std.specs.Prelude.{None}
use borrow.Author.Rules.{rules}
use Rattle.prop_frames.proofs.Binders.{no_object, no_colon, no_datatype, no_dot, binder_read}
use Rattle.prop_frames.proofs.binder_names.Goals as goal

pub returns-in_err-object : goal.returns-in_err-object
returns-in_err-object c =
    let none : c.from_residual.result ≡ None = search rules in
    rw none (no_object _ _ c.in_err-object.ensures)

pub returns-in_err-colon : goal.returns-in_err-colon
returns-in_err-colon c =
    let none : c.from_residual-in_err-colon.result ≡ None = search rules in
    rw none (no_colon c.in_ok-object.ensures c.in_err-colon.ensures)

pub returns-in_err-datatype : goal.returns-in_err-datatype
returns-in_err-datatype c =
    let none : c.from_residual-in_err-datatype.result ≡ None = search rules in
    rw none (no_datatype c.in_ok-object.ensures c.in_ok-colon.ensures c.in_err-datatype.ensures)

pub returns-in_err-end : goal.returns-in_err-end
returns-in_err-end c =
    let none : c.from_residual-in_err-end.result ≡ None = search rules in
    rw none (no_dot c.in_ok-object.ensures c.in_ok-colon.ensures c.in_ok-datatype.ensures c.in_err-end.ensures)

pub returns : goal.returns
returns c = binder_read c.in_ok-object.ensures c.in_ok-colon.ensures c.in_ok-datatype.ensures c.in_ok-end.ensures
