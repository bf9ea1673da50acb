-- The sheet's propositions stand behind one another within its code.
use borrow.Author.Rules.{rules}
use Rattle.judgement.proofs.Standing.{codes, stands_so}
use Rattle.judgement.proofs.stand.Goals as goal

pub put_code-requires : goal.put_code-requires
put_code-requires c =
    let header = c.header-h.ensures in
    let propositions = c.marked_propositions-propositions.ensures in
    codes header.accepted header.is propositions.pairs propositions.code c.requires (search rules)

pub returns : goal.returns
returns c =
    let header = c.header-h.ensures in
    let propositions = c.marked_propositions-propositions.ensures in
    stands_so header.accepted header.is propositions.pairs propositions.code c.put_code.ensures
