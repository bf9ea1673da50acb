-- The rule's bytes and then the given numbers fill the record.
use borrow.Author.Rules.{rules}
use Rattle.definitions.specs.Sheet.{step_size}
use Rattle.output.specs.Laws.{writer_laws}
use Rattle.restating.proofs.Bytes.{record_filled}
use Rattle.restating.proofs.new_record.Goals as goal

pub returns : goal.returns
unfolding step_size
returns c =
    let put = writer_laws.then c.put_all.ensures c.put_u16s.ensures in
    let filled = record_filled c.args.given put.wrote (search rules) in
    let same = put.same_memory in
    search rules
