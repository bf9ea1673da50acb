-- The words and the numbers, one after another.
use Rattle.definitions.specs.Answers.{refusal_line}
use Rattle.located.proofs.put_line.Goals as goal

pub returns : goal.returns
unfolding refusal_line
returns g c =
    let laws = g.met.S.Sink.laws in
    laws.then c.put_all.ensures
    (laws.then c.put_decimal.ensures
    (laws.then c.put_all-2.ensures
    (laws.then c.put_decimal-2.ensures
    (laws.then c.put_column.ensures c.put.ensures))))
