-- What the parts keep is added up and cut at the most that a number holds.
use borrow.Author.Rules.{rules}
use Rattle.term_sizes.specs.Sizes.{part_size}
use Rattle.term_sizes.proofs.Counting.{parts_counted, sum_cut}
use Rattle.term_sizes.proofs.count_nodes.Goals as goal

pub returns : goal.returns
returns c =
    let is = c.sum_over.ensures (part_size c.args.records.now c.args.m) (λ k r l post. search rules) in
    (sum_cut c.parts_at.result.now (part_size c.args.records.now c.args.m) is, λ props. parts_counted props c.parts_at.ensures c.requires.1 is)
