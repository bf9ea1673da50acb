-- The brackets and the digits, one after another.
use borrow.Author.Tests.{ne_eqb}
use Rattle.declarations.specs.Lines.{count_text}
use Rattle.declarations.proofs.put_count.Goals as goal

pub returns : goal.returns
unfolding count_text
returns g c =
    let laws = g.met.S.Sink.laws in
    rw (ne_eqb c.args.count 0 c.if-count-eq0.false) (laws.then c.put.ensures (laws.then c.put_decimal.ensures c.put-2.ensures))
