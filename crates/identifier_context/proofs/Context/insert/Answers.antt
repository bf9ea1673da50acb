-- What is inserted into the lent memory is inserted into the context, with the count that the insertion answers.
use mathlib.Core.Path.{◌≡◌, refl}
use borrow.Author.Rules.{rules}
use Rattle.std.specs.Prelude.{Err}
use Rattle.identifier_context.specs.Lent.{with_count}
use Rattle.identifier_context.proofs.Context.insert.Goals as goal

pub returns-in_err-len : goal.returns-in_err-len
unfolding with_count
returns-in_err-len c =
    let is : c.from_residual.result ≡ Err c.in_err-len.field-0.0 = search rules in
    rw is (record { inserts = c.in_err-len.ensures; count = refl; place = record { same_names = refl; same_memory = refl } })

pub returns : goal.returns
unfolding with_count
returns c = record { inserts = c.in_ok-len.ensures; count = tt; place = record { same_names = refl; same_memory = refl } }
