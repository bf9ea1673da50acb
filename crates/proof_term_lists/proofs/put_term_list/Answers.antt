-- The numbers of the uses that are put are those of the list.
use borrow.Author.Rules.{rules}
use Rattle.proof_term_lists.proofs.Numbers.{numbers_are}
use Rattle.proof_term_lists.proofs.put_term_list.Goals as goal

pub returns : goal.returns
returns g c = let put = c.put_term_uses.ensures.put in rw (numbers_are c.args.list _) (search rules)
