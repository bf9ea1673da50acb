-- The sign, the object, a colon, the datatype and a full stop, one after the other.
use Rattle.prop.proofs.propositions.Propositions.put_quantifier.Goals as goal

pub returns : goal.returns
returns g c =
    let laws = g.met.S.Sink.laws in
    rw (← c.sign.ensures, ← c.name.ensures, ← c.name-2.ensures)
    (laws.then c.put_all.ensures
    (laws.then c.put_all-2.ensures
    (laws.then c.put.ensures
    (laws.then c.put_all-3.ensures c.put_all-4.ensures))))
