-- The labels of a term that is held can be listed; the list is counted and then written. The refusal of a term is the answer.
use mathlib.Core.Path.{◌≡◌, refl, ◌∙◌}
use native.Mathlib.Omega.{arith}
use lib.ListN.{length}
use Rattle.std.proofs.Common.{rules}
use Rattle.text.specs.Declaring.{sheet_vocabulary}
use Rattle.text.proofs.Labels as labels
use Rattle.skriduhol.proofs.Lists.{no_list, counted, too_long, fills}
use Rattle.skriduhol.proofs.label_list.Goals as goal
use Rattle.skriduhol.proofs.label_list.Goals.{After-memory}

-- the memory that is listed is the sheet's
its_bytes : (c : After-memory) → c.memory.result.bytes.now ≡ c.args.s.now
its_bytes c = c.memory.ensures.bytes ∙ c.in_ok-held.ensures.same

its_vocabulary : (c : After-memory) → c.memory.result.vocabulary ≡ sheet_vocabulary c.args.s.now
its_vocabulary c = rw c.in_ok-held.ensures.same at c.memory.ensures.vocabulary

pub returns-in_err-held : goal.returns-in_err-held
returns-in_err-held c = no_list _ _ c.in_err-held.ensures (search rules) _

pub returns-then-out-length : goal.returns-then-out-length
returns-then-out-length c =
    let given = c.in_ok-held.ensures in
    let length-is = counted given.sheet refl given.term c.args.which (rw given.same at c.held_list_length-length.ensures) in
    rw c.at.ensures (too_long given.sheet refl given.term c.args.which (omega (arith, length-is)))

pub put_term_list-requires : goal.put_term_list-requires
put_term_list-requires c =
    let given = c.in_ok-held.ensures in
    let here = (goal.at.put_term_list-requires c).After-memory in
    rw (its_bytes here, c.terms.ensures, c.record.ensures.is) (labels.listable given.sheet (its_vocabulary here) given.term)

pub returns : goal.returns
returns c =
    let given = c.in_ok-held.ensures in
    let here = (goal.at.returns c).After-memory in
    let length-is = counted given.sheet (its_vocabulary here) given.term c.args.which (rw given.same at c.held_list_length-length.ensures) in
    fills given.sheet (its_vocabulary here) given.term _ length-is (omega arith) {next = c.put_term_list.new.sink.to}
    (let put = rw (its_bytes here, c.terms.ensures, c.record.ensures.is) at c.put_term_list.ensures in search rules)
