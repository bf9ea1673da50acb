-- The list of a term that is held is put into a counter.
use Prim.Native.Nat.{◌<◌}
use mathlib.Core.Path.{refl}
use native.Mathlib.Omega.{arith}
use Rattle.definitions.specs.Sheet.{step_limit}
use Rattle.text.proofs.Ends.{code_short}
use Rattle.text.proofs.Labels.{listable}
use Rattle.list_length.proofs.Numbers.{list_short, length_told}
use Rattle.list_length.proofs.held_list_length.Goals as goal

pub put_term_list-requires : goal.put_term_list-requires
put_term_list-requires c =
    let m = c.memory.ensures in
    rw (m.bytes, c.terms.ensures, c.record.ensures.is) (listable m.accepted m.vocabulary c.record.ensures.held)

pub returns : goal.returns
unfolding step_limit
returns c =
    let m = c.memory.ensures in
    let term = c.record.ensures.held in
    let small : c.args.held.now.2 < 2048 = omega (arith, term.held, term.room) in
    let short = list_short _ _ (code_short m.accepted m.vocabulary) c.args.list (listable m.accepted m.vocabulary term) small in
    length_told _ _ m.accepted m.vocabulary term short refl (rw (m.bytes, c.terms.ensures, c.record.ensures.is) at c.put_term_list.ensures)
